-- One end of an edge is written whose dart is in no disk cycle; the other dart may be in one.
use Rattle.std.proofs.Common.{◌≡◌, ◌≢◌, ◌<◌, ◌==◌, ◌&&◌, ℕ, zero, suc, Bool, cond, nat_lt, is_some, List, Option, Some, None, refl, sym, ap, ◌∙◌, subst, inl, inr, arith}
use Rattle.std.specs.Prelude.{slice_index_or}
use Rattle.std.specs.Option.{option_map, option_map_or}
use Rattle.std.proofs.lemmas.Bool.{cases_eq, false_from_ne_true, eqb-true, eq-eqb}
use Rattle.std.proofs.lemmas.Option.{same_Some}
use Rattle.raw_pool.specs.declared.pool.Slot.{Slot}
use Rattle.link_ring.specs.Members.{HasMember}
use Rattle.mesh_store.specs.Limits.{darts_limited, radials_limited, rounds_limited, is_dart}
use Rattle.mesh_store.specs.Slots.{at}
use Rattle.mesh_store.specs.Stored.{Stored, dart_next, dart_prev, no_slot, with_ends, change_edge}
use Rattle.mesh_store.specs.declared.cells.Dart.{Dart}
use Rattle.mesh_store.specs.declared.cells.EdgeCell.{EdgeCell}
use Rattle.mesh_cycles.specs.Owners.{end_on, side_at, dart_end, dart_at, first_dart}
use Rattle.mesh_cycles.specs.Cycles.{AreCycles, disk_of, IsInNoDisk}
use Rattle.mesh_cycles.proofs.Cells.{changed_here, changed_elsewhere}
use Rattle.mesh_cycles.proofs.RingLists.{member_key}
use Rattle.mesh_cycles.specs.Adds.{SameCycles}
use Rattle.mesh_cycles.proofs.Stays.{same_by, first_edge_in, first_by, first_member}
use Rattle.mesh_cycles.proofs.Elements.{told_set, differ_set, ends_differ, first_loop_in}

-- the vertex at which a list of ends ends on a side
abbrev pub end_in : List Slot → ℕ → ℕ
end_in to side = (slice_index_or to side no_slot).0

-- the other side
abbrev pub other_side : ℕ → ℕ
other_side zero = 1
other_side (suc side) = 0

-- a side that is not one is the other
the_other : (side k : ℕ) → side < 2 → k < 2 → k ≢ side → k ≡ other_side side
the_other zero zero a b ne = absurd (ne refl)
the_other zero (suc k) a b ne = omega arith
the_other (suc side) zero a b ne = refl
the_other (suc side) (suc k) a b ne = absurd (ne (omega arith))

module _ (old new : Stored) (h : AreCycles old) (s : Slot) (to : List Slot) (side : ℕ) (low : side < 2)
    (none : IsInNoDisk old (record { edge = s; side = side }))
    (stays : (c : EdgeCell) → at old.edges.cells s.0 ≡ Some c
    → end_in to (other_side side) ≡ end_on (other_side side) c) (differ : end_in to 0 ≢ end_in to 1) where
  made : Stored
  made = change_edge (with_ends to) old s.0

  now : Option EdgeCell
  now = option_map (with_ends to) (at old.edges.cells s.0)

  -- what g tells of an edge and not of its ends
  told_beside : {Z : Type 0} (g : Option EdgeCell → Z) → ((c : EdgeCell) → g (Some (with_ends to c)) ≡ g (Some c))
      → (t : ℕ) → g (at made.edges.cells t) ≡ g (at old.edges.cells t)
  unfolding made now
  told_beside g same t = told_set g old.edges.cells s.0 now (by_cell (at old.edges.cells s.0)) t
    where
      by_cell : (o : Option EdgeCell) → g (option_map (with_ends to) o) ≡ g o
      by_cell None = refl
      by_cell (Some c) = same c

  -- a member that is a dart of the edge is the other one
  member_side : (v : ℕ) (d : Dart) → HasMember (disk_of old v) d → d.edge.0 ≡ s.0 → d.side ≡ other_side side
  member_side v d m e =
      the_other side d.side low (is_dart old d (member_key d (h.disks v) m)).1
      (λ q. let P = HasMember (disk_of old v) in none v (subst P (λ i. record { edge = record { 0 = e i }; side = q i })
      m))

  ends_stay : (v : ℕ) (d : Dart) → HasMember (disk_of old v) d → dart_end made d ≡ dart_end old d
  unfolding made now
  ends_stay v d m = elim (cases_eq d.edge.0 s.0) [
    | inl e ↦
        let P = λ (k : ℕ). λ (j : ℕ). option_map (end_on k) (at made.edges.cells j)
        ≡ option_map (end_on k) (at old.edges.cells j) in
        let Q = λ (k : ℕ). P k d.edge.0 in
        let R = λ (j : ℕ). P (other_side side) j in
        subst Q (sym (member_side v d m e)) (subst R (sym e)
        (ap (option_map (end_on (other_side side))) (changed_here (with_ends to) old.edges.cells s.0)
        ∙ by_cell (at old.edges.cells s.0) (λ c q. stays c q)))
    | inr ne ↦ ap (option_map (end_on d.side)) (changed_elsewhere (with_ends to) old.edges.cells s.0 d.edge.0 ne)
  ]
    where
      by_cell : (o : Option EdgeCell) → ((c : EdgeCell) → o ≡ Some c
          → end_in to (other_side side) ≡ end_on (other_side side) c)
          → option_map (end_on (other_side side)) (option_map (with_ends to) o)
          ≡ option_map (end_on (other_side side)) o
      by_cell None q = refl
      by_cell (Some c) q = ap (λ (k : ℕ). Some k) (q c refl)

  -- the side on which an edge ends at a vertex
  side_stays : (v : ℕ) (c : EdgeCell) → at old.edges.cells s.0 ≡ Some c
      → HasMember (disk_of old v) (record { edge = s; side = side_at v c }) → side_at v (with_ends to c) ≡ side_at v c
  side_stays v c is m =
      let is_other = member_side v (record { edge = s; side = side_at v c }) m refl in
      let ends : dart_end old (record { edge = s; side = other_side side }) ≡ Some v =
      (let P = λ (k : ℕ). dart_end old (record { edge = s; side = k })
      ≡ Some v in subst P is_other (h.disk_ends v (record { edge = s; side = side_at v c }) m)) in
      let at_v : end_on (other_side side) c ≡ v =
      same_Some _ _ (sym (ap (option_map (end_on (other_side side))) is) ∙ ends) in
      by_side side (stays c is) at_v is_other
    where
      by_side : (k : ℕ) → end_in to (other_side k) ≡ end_on (other_side k) c → end_on (other_side k) c ≡ v
          → side_at v c ≡ other_side k → side_at v (with_ends to c) ≡ side_at v c
      by_side zero p q r = ap (λ (b : Bool). cond b 0 1) (false_from_ne_true (end_in to 0 == v)
          (λ e. differ (eqb-true (end_in to 0) v e ∙ sym (p ∙ q)))) ∙ sym r
      by_side (suc k) p q r = ap (λ (b : Bool). cond b 0 1) (eq-eqb (end_in to 0) v (p ∙ q)) ∙ sym r

  firsts_stay : (v : ℕ) → first_dart made v ≡ first_dart old v
  unfolding made now
  firsts_stay v =
      first_by made v
      ∙ darts_agree (first_edge_in (at old.verts.cells v)) (λ e is.
      first_member (dart_at old v e) (h.disks v) (first_by old v ∙ ap (option_map (dart_at old v)) is))
      ∙ sym (first_by old v)
    where
      at_cell : (o : Option EdgeCell) → at old.edges.cells s.0 ≡ o
          → HasMember (disk_of old v) (record { edge = s; side = option_map_or (side_at v) o 0 })
          → option_map_or (side_at v) (option_map (with_ends to) o) 0 ≡ option_map_or (side_at v) o 0
      at_cell None q m = refl
      at_cell (Some c) q m = side_stays v c q m

      same_side : (e : Slot) → HasMember (disk_of old v) (dart_at old v e)
          → option_map_or (side_at v) (at made.edges.cells e.0) 0 ≡ option_map_or (side_at v) (at old.edges.cells e.0) 0
      same_side e m = elim (cases_eq e.0 s.0) [
        | inl q ↦
            let P = λ (k : ℕ). option_map_or (side_at v) (at made.edges.cells k) 0
            ≡ option_map_or (side_at v) (at old.edges.cells k) 0 in
            let Q = λ (x : Slot). HasMember (disk_of old v) (dart_at old v x) in
            let slot : e ≡ s = λ i. record { 0 = q i } in
            subst P (sym q) (ap (λ (o : Option EdgeCell). option_map_or (side_at v) o 0)
            (changed_here (with_ends to) old.edges.cells s.0)
            ∙ at_cell (at old.edges.cells s.0) refl (subst Q slot m))
        | inr ne ↦ ap (λ (o : Option EdgeCell). option_map_or (side_at v) o 0)
            (changed_elsewhere (with_ends to) old.edges.cells s.0 e.0 ne)
      ]

      darts_agree : (o : Option Slot) → ((e : Slot) → o ≡ Some e → HasMember (disk_of old v) (dart_at old v e))
          → option_map (dart_at made v) o ≡ option_map (dart_at old v) o
      darts_agree None m = refl
      darts_agree (Some e) m = (let is = same_side e (m e refl) in λ i. Some (record { edge = e; side = is i }))

  -- so every cycle has its members
  pub end_written : new ≡ change_edge (with_ends to) old s.0 → SameCycles old new
  unfolding made now
  end_written is =
      subst (SameCycles old) (sym is) (same_by old made h
      (record {
        firsts = firsts_stay;
        links = λ v. record {
          has = λ d m. told_beside (λ (o : Option EdgeCell). is_some o && nat_lt d.side 2) (λ c. refl) d.edge.0;
          next = λ d m. told_beside (dart_next d) (λ c. refl) d.edge.0;
          prev = λ d m. told_beside (dart_prev d) (λ c. refl) d.edge.0;
        };
        owners = ends_stay;
        limited = darts_limited made;
      })
      (record {
        firsts = λ e. told_beside first_loop_in (λ c. refl) e;
        links = λ e. record { has = λ l m. refl; next = λ l m. refl; prev = λ l m. refl };
        owners = λ e l m. refl;
        limited = radials_limited made;
      })
      (record {
        firsts = λ f. refl;
        links = λ f. record { has = λ l m. refl; next = λ l m. refl; prev = λ l m. refl };
        owners = λ f l m. refl;
        limited = rounds_limited made;
      })
      (differ_set old.edges.cells s.0 now (ends_differ to (at old.edges.cells s.0) differ) h.differ))

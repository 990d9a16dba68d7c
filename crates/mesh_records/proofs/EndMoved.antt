-- An end of an edge is moved, step by step.
use Rattle.std.proofs.Common.{◌≡◌, ◌≢◌, ◌<◌, ◌-◌, ℕ, suc, zero, IsTrue, is_some, ◌&&◌, nat_lt, ◌⊎◌, List, [], ◌∷◌, ◌++◌, Option, Some, None, length, refl, sym, ap, ◌∙◌, subst, inl, inr, arith}
use Rattle.std.specs.Prelude.{slice_set}
use Rattle.std.specs.Option.{option_map}
use Rattle.std.proofs.lemmas.Bool.{cases_eq}
use Rattle.std.proofs.lemmas.List.{get_or-set_same, get_or-set_other, length-set}
use Rattle.std.proofs.lemmas.Option.{same_Some}
use Rattle.cust_data.specs.Layers.{row_of}
use Rattle.raw_pool.specs.declared.pool.Slot.{Slot}
use Rattle.raw_pool.specs.Slots.{spare_count}
use Rattle.link_ring.specs.Members.{HasMember}
use Rattle.link_ring.proofs.Members.{member_of, member_left, member_right}
use Rattle.mesh_store.specs.Limits.{is_dart}
use Rattle.mesh_store.specs.Slots.{at}
use Rattle.mesh_store.specs.Stored.{Stored, change_edge, with_ends, no_slot, dart_links}
use Rattle.mesh_store.specs.declared.cells.Dart.{Dart}
use Rattle.mesh_store.specs.declared.cells.EdgeCell.{EdgeCell}
use Rattle.mesh_store.specs.declared.cells.LoopCell.{LoopCell}
use Rattle.mesh_cycles.specs.Adds.{SameCycles}
use Rattle.mesh_cycles.specs.Owners.{dart_end, end_on, len_of}
use Rattle.mesh_cycles.specs.Cycles.{HaveCycles, IsInNoDisk, disk_of}
use Rattle.mesh_cycles.specs.Edits.{bare, EditsDisk}
use Rattle.mesh_cycles.specs.Lists.{same_dart, without}
use Rattle.mesh_cycles.proofs.Besides.{bare_edge_told, disk_darts, disk_ends, disk_lens}
use Rattle.mesh_cycles.proofs.Cells.{changed_here, changed_elsewhere}
use Rattle.mesh_cycles.proofs.Elements.{told_set}
use Rattle.mesh_cycles.proofs.Completeness.{counted_same}
use Rattle.mesh_cycles.proofs.Ends.{end_in, other_side, end_written}
use Rattle.mesh_cycles.proofs.Frames.{dart_test}
use Rattle.mesh_records.specs.AtSlots.{StoredEdge, vert_in, edge_in, loop_in, face_in}
use Rattle.mesh_records.specs.Frames.{SameElements, SameSize}
use Rattle.mesh_records.specs.MovesEnd.{with_end_at, MovesEnd}
use Rattle.mesh_records.specs.Puts.{dart_on}
use Rattle.mesh_records.specs.ReadOff.{layers_in}
use Rattle.mesh_records.proofs.Added.{sizes_then, size_along}
use Rattle.mesh_records.proofs.Elements.{same_bare}
use Rattle.mesh_records.proofs.Joins.{vert_size, edge_size}
use Rattle.mesh_records.proofs.Listed.{spare_changed}
use Rattle.mesh_records.proofs.Loses.{stays_without}
use Rattle.mesh_records.proofs.Options.{has_key, told_twice}
use Rattle.mesh_records.proofs.TakesEdge.{less_all}

-- a side that is not one is the other
the_other : (side k : ℕ) → side < 2 → k < 2 → (k ≡ side → ⊥) → k ≡ other_side side
the_other zero zero a b ne = absurd (ne refl)
the_other zero (suc k) a b ne = omega arith
the_other (suc side) zero a b ne = refl
the_other (suc side) (suc k) a b ne = absurd (ne (omega arith))

module _ (old : Stored) (h : HaveCycles old) (e : Slot) (c : EdgeCell) (is : at old.edges.cells e.0 ≡ Some c)
    (long : length c.ends ≡ 2) (side : ℕ) (low : side < 2) (from : ℕ) (ends_at : end_on side c ≡ from) (to : Slot)
    (moves : from ≢ to.0) (differ : end_on (other_side side) c ≢ to.0)
    (one : Stored) (a : EditsDisk old one from (disk_of old from)
    (without same_dart (dart_on e side) (disk_of old from))) (out : IsInNoDisk one (dart_on e side)) where
  -- the ends after
  abbrev pub ends : List Slot
  ends = slice_set c.ends side to

  moved_end : end_in ends side ≡ to.0
  moved_end = ap (λ (s : Slot). s.0) (get_or-set_same c.ends side to no_slot (omega arith))

  other_end : end_in ends (other_side side) ≡ end_on (other_side side) c
  other_end = ap (λ (s : Slot). s.0) (get_or-set_other c.ends side (other_side side) to no_slot (apart side))
    where
      apart : (k : ℕ) → other_side k ≢ k
      apart zero q = absurd (omega arith)
      apart (suc k) q = absurd (omega arith)

  ends_apart : end_in ends 0 ≢ end_in ends 1
  ends_apart = by_side side low moved_end other_end differ
    where
      by_side : (k : ℕ) → k < 2 → end_in ends k ≡ to.0 → end_in ends (other_side k) ≡ end_on (other_side k) c
          → end_on (other_side k) c ≢ to.0 → end_in ends 0 ≢ end_in ends 1
      by_side zero lt p q ne r = ne (sym q ∙ sym r ∙ p)
      by_side (suc zero) lt p q ne r = ne (sym q ∙ r ∙ p)
      by_side (suc (suc k)) lt p q ne r = absurd (omega arith)

  -- the ends of a dart in the old store
  dart_was : (k : ℕ) → dart_end old (dart_on e k) ≡ Some (end_on k c)
  dart_was k = ap (option_map (end_on k)) is

  module _ (two : Stored) (writes : two ≡ change_edge (with_ends ends) one e.0) where
    pub cycles_two : SameCycles one two
    cycles_two =
        end_written one two a.cycles e ends side low out
        (λ x told.
        let same = disk_ends old one from a.rest (dart_on e (other_side side)) ∙ dart_was (other_side side) in
        let here : Some (end_on (other_side side) x) ≡ Some (end_on (other_side side) c) =
        sym (ap (option_map (end_on (other_side side))) told) ∙ same in
        other_end ∙ sym (same_Some _ _ here)) ends_apart writes

    -- what is told of an edge and not of its ends stays
    told_two : {Z : Type 0} (g : Option EdgeCell → Z)
        → ((x : EdgeCell) → g (Some (with_ends ends x)) ≡ g (Some x)) → (s : ℕ)
        → g (at two.edges.cells s) ≡ g (at one.edges.cells s)
    told_two g same s =
        ap (λ (t : Stored). g (at t.edges.cells s)) writes
        ∙ told_set g one.edges.cells e.0 (option_map (with_ends ends) (at one.edges.cells e.0))
        (by_cell (at one.edges.cells e.0)) s
      where
        by_cell : (o : Option EdgeCell) → g (option_map (with_ends ends) o) ≡ g o
        by_cell None = refl
        by_cell (Some x) = same x

    pub dart_two : IsTrue ((dart_links old).has (dart_on e side)) → IsTrue ((dart_links two).has (dart_on e side))
    dart_two has =
        told_two (λ (o : Option EdgeCell). is_some o && nat_lt side 2) (λ x. refl) e.0
        ∙ disk_darts old one from a.rest (dart_on e side) ∙ has

    pub end_two : dart_end two (dart_on e side) ≡ Some to.0
    end_two =
        ap (λ (t : Stored). option_map (end_on side) (at t.edges.cells e.0)) writes
        ∙ ap (option_map (end_on side)) (changed_here (with_ends ends) one.edges.cells e.0)
        ∙ told_twice (with_ends ends) (end_on side) (at one.edges.cells e.0)
        ∙ by_cell (at one.edges.cells e.0) (disk_ends old one from a.rest (dart_on e side) ∙ dart_was side)
      where
        by_cell : (o : Option EdgeCell) → option_map (end_on side) o ≡ Some (end_on side c)
            → option_map (λ (x : EdgeCell). end_on side (with_ends ends x)) o ≡ Some to.0
        by_cell None q = absurd (let no : None ≡ Some (end_on side c) = q in cc)
        by_cell (Some x) q = ap (λ (k : ℕ). Some k) moved_end

    pub alone_two : IsInNoDisk two (dart_on e side)
    alone_two v m = out v (member_of _ m (cycles_two.disks v))

    module _ (new : Stored) (b : EditsDisk two new to.0 (dart_on e side ∷ disk_of two to.0)
        (disk_of two to.0 ++ dart_on e side ∷ [])) where
      disks_one : (v : ℕ) → disk_of two v ≡ without same_dart (dart_on e side) (disk_of old v)
      disks_one v = cycles_two.disks v
          ∙ less_all old one from (dart_on e side) h.cycles (dart_was side ∙ ap (λ (k : ℕ). Some k) ends_at) a v

      -- darts of other edges, and the other one of this edge, end where they did
      end_stays : (d : Dart) → d.side < 2 → (d ≡ dart_on e side → ⊥) → dart_end new d ≡ dart_end old d
      end_stays d lt ne =
          disk_ends two new to.0 b.rest d
          ∙ elim (cases_eq d.edge.0 e.0) [
            | inl q ↦
                let other : d.side ≡ other_side side = the_other side d.side low lt
                (λ s. ne (λ i. record { edge = record { 0 = q i }; side = s i })) in
                let P = λ (k : ℕ). option_map (end_on k) (at two.edges.cells d.edge.0)
                ≡ option_map (end_on k) (at one.edges.cells d.edge.0) in
                let Q = λ (x : ℕ). option_map (end_on (other_side side)) (at two.edges.cells x)
                ≡ option_map (end_on (other_side side)) (at one.edges.cells x) in
                subst P (sym other) (subst Q (sym q) other_stays)
            | inr far ↦
                ap (λ (t : Stored). option_map (end_on d.side) (at t.edges.cells d.edge.0)) writes
                ∙ ap (option_map (end_on d.side)) (changed_elsewhere (with_ends ends) one.edges.cells e.0 d.edge.0 far)
          ]
          ∙ disk_ends old one from a.rest d
        where
          by_cell : (o : Option EdgeCell) → option_map (end_on (other_side side)) o ≡ Some (end_on (other_side side) c)
              → option_map (λ (x : EdgeCell). end_on (other_side side) (with_ends ends x)) o
              ≡ option_map (end_on (other_side side)) o
          by_cell None q = refl
          by_cell (Some x) q = ap (λ (k : ℕ). Some k) (other_end ∙ sym (same_Some _ _ q))

          other_stays : option_map (end_on (other_side side)) (at two.edges.cells e.0)
              ≡ option_map (end_on (other_side side)) (at one.edges.cells e.0)
          other_stays =
              ap (λ (t : Stored). option_map (end_on (other_side side)) (at t.edges.cells e.0)) writes
              ∙ ap (option_map (end_on (other_side side))) (changed_here (with_ends ends) one.edges.cells e.0)
              ∙ told_twice (with_ends ends) (end_on (other_side side)) (at one.edges.cells e.0)
              ∙ by_cell (at one.edges.cells e.0)
              (disk_ends old one from a.rest (dart_on e (other_side side)) ∙ dart_was (other_side side))

      has_stays : (d : Dart) → (dart_links new).has d ≡ (dart_links old).has d
      has_stays d =
          disk_darts two new to.0 b.rest d
          ∙ told_two (λ (o : Option EdgeCell). is_some o && nat_lt d.side 2) (λ x. refl) d.edge.0
          ∙ disk_darts old one from a.rest d

      -- a dart that stays is a member still
      member_stays : (v : ℕ) (d : Dart) → (d ≡ dart_on e side → ⊥) → HasMember (disk_of old v) d
          → HasMember (disk_of new v) d
      member_stays v d ne m =
          let kept = member_of d (stays_without same_dart dart_test (dart_on e side) d (disk_of old v) ne m)
          (sym (disks_one v)) in
          elim (cases_eq v to.0) [
            | inl q ↦
                let P = λ (x : ℕ). HasMember (disk_of new x) d in
                let Q = λ (x : ℕ). HasMember (disk_of two x) d in
                subst P (sym q) (member_of d (member_left (disk_of two to.0) (dart_on e side ∷ []) d (subst Q q kept))
                (sym b.own))
            | inr far ↦ member_of d kept (sym (b.others v far))
          ]

      -- everything but cycles and the ends
      pub elements_moved : SameElements (with_end_at old e side to) new
      elements_moved =
          let k = same_bare old one a.stays in
          let m = same_bare two new b.stays in
          record {
            verts = λ s. m.verts s ∙ ap (λ (t : Stored). vert_in t s) writes ∙ k.verts s;
            edges = λ s. m.edges s ∙ ap (λ (t : Stored). edge_in t s) writes ∙ edges_moved s (k.edges s);
            loops = λ s. m.loops s ∙ ap (λ (t : Stored). loop_in t s) writes ∙ k.loops s;
            faces = λ s. m.faces s ∙ ap (λ (t : Stored). face_in t s) writes ∙ k.faces s;
            vert_names = λ j. m.vert_names j ∙ ap (λ (t : Stored). at t.verts.names j) writes ∙ k.vert_names j;
            edge_names = λ j. m.edge_names j ∙ ap (λ (t : Stored). at t.edges.names j) writes ∙ k.edge_names j;
            face_names = λ j. m.face_names j ∙ ap (λ (t : Stored). at t.faces.names j) writes ∙ k.face_names j;
            layers = m.layers ∙ ap layers_in writes ∙ k.layers;
          }
        where
          tell : Stored → ℕ → EdgeCell → StoredEdge
          tell t s x = record { number = x.number; ends = x.ends; vals = row_of t.values.edges s }

          set_ends : StoredEdge → StoredEdge
          set_ends x = record x { ends = ends }

          replaced : EdgeCell → EdgeCell
          replaced x = record x { ends = slice_set x.ends side to }

          here : edge_in one e.0 ≡ edge_in old e.0
              → edge_in (change_edge (with_ends ends) one e.0) e.0 ≡ edge_in (with_end_at old e side to) e.0
          here same =
              ap (option_map (tell one e.0)) (changed_here (with_ends ends) one.edges.cells e.0)
              ∙ told_twice (with_ends ends) (tell one e.0) (at one.edges.cells e.0)
              ∙ sym (told_twice (tell one e.0) set_ends (at one.edges.cells e.0))
              ∙ ap (option_map set_ends) same
              ∙ ap (λ (o : Option EdgeCell). option_map set_ends (option_map (tell old e.0) o)) is
              ∙ sym (ap (λ (o : Option EdgeCell). option_map (tell old e.0) (option_map replaced o)) is)
              ∙ sym (ap (option_map (tell old e.0)) (changed_here replaced old.edges.cells e.0))

          edges_moved : (s : ℕ) → edge_in one s ≡ edge_in old s
              → edge_in (change_edge (with_ends ends) one e.0) s ≡ edge_in (with_end_at old e side to) s
          edges_moved s same = elim (cases_eq s e.0) [
            | inl q ↦
                let P = λ (x : ℕ). edge_in (change_edge (with_ends ends) one e.0) x
                ≡ edge_in (with_end_at old e side to) x in
                let Q = λ (x : ℕ). edge_in one x ≡ edge_in old x in
                subst P (sym q) (here (subst Q q same))
            | inr far ↦
                ap (option_map (tell one s)) (changed_elsewhere (with_ends ends) one.edges.cells e.0 s far) ∙ same
                ∙ sym (ap (option_map (tell old s)) (changed_elsewhere replaced old.edges.cells e.0 s far))
          ]

      pub moves_end : MovesEnd old new e side from to
      moves_end =
          let same = elements_moved in
          let disks = disks_one in
          let long_verts = sizes_then (vert_size old one a.stays)
          (sizes_then (size_along (ap (λ (t : Stored). t.verts.cells) writes)) (vert_size two new b.stays)) in
          let written : SameSize one.edges.cells two.edges.cells = record {
            long = ap (λ (t : Stored). length t.edges.cells) writes
                ∙ length-set one.edges.cells e.0 (option_map (with_ends ends) (at one.edges.cells e.0));
            spare = ap (λ (t : Stored). spare_count t.edges.cells) writes
                ∙ spare_changed (with_ends ends) one.edges.cells e.0;
          } in
          let long_edges = sizes_then (edge_size old one a.stays) (sizes_then written (edge_size two new b.stays)) in
          let rounds = λ (f : ℕ). b.rounds f ∙ cycles_two.rounds f ∙ a.rounds f in
          let radials = λ (d : ℕ). b.radials d ∙ cycles_two.radials d ∙ a.radials d in
          let lens = λ (f : ℕ). disk_lens two new to.0 b.rest f ∙ ap (λ (t : Stored). len_of t f) writes
          ∙ disk_lens old one from a.rest f in
          let loops = ap (λ (t : Stored). t.loops) b.rest ∙ ap (λ (t : Stored). t.loops) writes
          ∙ ap (λ (t : Stored). t.loops) a.rest in
          record {
            elements = same;
            values = ap (λ (t : Stored). t.values) b.stays ∙ ap (λ (t : Stored). t.values) writes
                ∙ ap (λ (t : Stored). t.values) a.stays;
            cycles = record {
              cycles = b.cycles;
              complete = record {
                disks = λ v d has end.
                    let lt = (is_dart new d has).1 in
                    elim (dart_cases d) [
                      | inl q ↦
                          let P = λ (x : Dart). dart_end new x ≡ Some v in
                          let here : Some v ≡ Some to.0 = sym (subst P q end)
                          ∙ disk_ends two new to.0 b.rest (dart_on e side) ∙ end_two in
                          let Q = λ (x : Dart). HasMember (disk_of new v) x in
                          let R = λ (x : ℕ). HasMember (disk_of new x) (dart_on e side) in
                          subst Q (sym q) (subst R (sym (same_Some _ _ here))
                          (member_of _ (member_right (disk_of two to.0) (dart_on e side ∷ []) _ (inl refl))
                          (sym b.own)))
                      | inr ne ↦ member_stays v d ne (h.complete.disks v d (sym (has_stays d) ∙ has)
                          (sym (end_stays d lt ne) ∙ end))
                    ];
                radials = λ l d told. member_of _ (h.complete.radials l d
                    (ap (λ (xs : List (Option LoopCell)). option_map (λ (x : LoopCell). x.edge.0) (at xs l.0))
                    (sym loops) ∙ told)) (sym (radials d));
                rounds = λ l f told. member_of _ (h.complete.rounds l f
                    (ap (λ (xs : List (Option LoopCell)). option_map (λ (x : LoopCell). x.face.0) (at xs l.0))
                    (sym loops) ∙ told)) (sym (rounds f));
              };
              counted = counted_same old new lens rounds h.counted;
            };
            left = b.others from moves ∙ disks from;
            own = b.own ∙ ap (λ (ds : List Dart). ds ++ dart_on e side ∷ []) (cycles_two.disks to.0
                ∙ a.others to.0 (λ q. moves (sym q)));
            others = λ v ne far. b.others v far ∙ cycles_two.disks v ∙ a.others v ne;
            radials = radials;
            rounds = rounds;
            verts = long_verts;
            edges = long_edges;
            vert_names = ap (λ (t : Stored). t.verts.names) b.rest ∙ ap (λ (t : Stored). t.verts.names) writes
                ∙ ap (λ (t : Stored). t.verts.names) a.rest;
            edge_names = ap (λ (t : Stored). t.edges.names) b.rest ∙ ap (λ (t : Stored). t.edges.names) writes
                ∙ ap (λ (t : Stored). t.edges.names) a.rest;
            loops = loops;
            faces = ap (λ (t : Stored). t.faces) b.rest ∙ ap (λ (t : Stored). t.faces) writes
                ∙ ap (λ (t : Stored). t.faces) a.rest;
          }
        where
          dart_cases : (d : Dart) → (d ≡ dart_on e side) ⊎ (d ≡ dart_on e side → ⊥)
          dart_cases d = elim (cases_eq d.edge.0 e.0) [
            | inl q ↦ elim (cases_eq d.side side) [
              | inl s ↦ inl (λ i. record { edge = record { 0 = q i }; side = s i })
              | inr ne ↦ inr (λ r. ne (ap (λ (x : Dart). x.side) r))
            ]
            | inr ne ↦ inr (λ r. ne (ap (λ (x : Dart). x.edge.0) r))
          ]

-- ---- the edge's cell

-- the cell of a live edge, its ends, and where it ends
pub record EndCell (old : Stored) (e : Slot) (side from : ℕ) (to : Slot) (ends : List Slot) : Type 0 where
  pub cell : EdgeCell
  pub is : at old.edges.cells e.0 ≡ Some cell
  pub same : cell.ends ≡ ends
  pub ends_at : end_on side cell ≡ from
  pub differ : end_on (other_side side) cell ≢ to.0

-- the other side by a number
pub other_is : (side : ℕ) → side < 2 → other_side side ≡ 1 - side
other_is zero h = omega arith
other_is (suc zero) h = omega arith
other_is (suc (suc side)) h = absurd (omega arith)

pub end_cell : (old one : Stored) (e : Slot) (side from : ℕ) (to : Slot) (ends : List Slot) → bare one ≡ bare old
    → side < 2 → option_map (λ (x : EdgeCell). x.ends) (at one.edges.cells e.0) ≡ Some ends
    → dart_end old (dart_on e side) ≡ Some from → dart_end old (dart_on e (1 - side)) ≢ Some to.0
    → EndCell old e side from to ends
end_cell old one e side from to ends stays low told at_from differ =
    let tell = λ (x : EdgeCell). x.ends in
    let k = has_key tell (at old.edges.cells e.0) ends
    (sym (bare_edge_told old one stays (option_map tell) (λ x. refl) e.0) ∙ told) in
    let here = sym (ap (option_map (end_on side)) k.is) ∙ at_from in
    record {
      cell = k.cell;
      is = k.is;
      same = k.same;
      ends_at = same_Some _ _ here;
      differ = λ q. differ (ap (λ (j : ℕ). dart_end old (dart_on e j)) (sym (other_is side low))
          ∙ ap (option_map (end_on (other_side side))) k.is ∙ ap (λ (j : ℕ). Some j) q);
    }

-- An edge is taken out of its disk cycles and dropped.
use Rattle.std.proofs.Common.{◌≡◌, ◌+◌, ◌<◌, ◌==◌, ◌&&◌, ℕ, zero, suc, Bool, true, false, not, is_some, nat_lt, List, [], Option, Some, None, length, refl, sym, ap, ◌∙◌, subst, inl, inr, arith}
use Rattle.std.specs.Prelude.{slice_set}
use Rattle.std.specs.List.{filter}
use Rattle.std.specs.Option.{option_map}
use Rattle.std.proofs.lemmas.Bool.{cases_eq, false≢true, eqb-true, eq-eqb, false_from_ne_true}
use Rattle.std.proofs.lemmas.List.{length-set}
use Rattle.std.proofs.lemmas.Option.{same_Some}
use Rattle.cust_data.specs.Layers.{row_of}
use Rattle.raw_pool.specs.declared.pool.Slot.{Slot}
use Rattle.raw_pool.specs.Slots.{spare_count}
use Rattle.link_ring.specs.Members.{HasMember}
use Rattle.link_ring.proofs.Members.{member_of}
use Rattle.mesh_store.specs.Limits.{is_dart}
use Rattle.mesh_store.specs.Slots.{at}
use Rattle.mesh_store.specs.Naming.{number_in, without_cell}
use Rattle.mesh_store.specs.Stored.{Stored}
use Rattle.mesh_store.specs.declared.cells.Dart.{Dart}
use Rattle.mesh_store.specs.declared.cells.EdgeCell.{EdgeCell}
use Rattle.mesh_store.proofs.Places.{below, written, unwritten}
use Rattle.mesh_cycles.specs.Owners.{end_on, dart_end, len_of}
use Rattle.mesh_cycles.specs.Lists.{same_dart, without}
use Rattle.mesh_cycles.specs.Cycles.{AreCycles, HaveCycles, disk_of, radial_of, IsInNoDisk}
use Rattle.mesh_cycles.specs.Edits.{EditsDisk}
use Rattle.mesh_cycles.proofs.Frames.{dart_test}
use Rattle.mesh_cycles.proofs.Mapped.{filtered_from, filtered_to}
use Rattle.mesh_cycles.proofs.RingLists.{member_key}
use Rattle.mesh_cycles.proofs.Besides.{disk_ends, disk_lens, bare_edge_told}
use Rattle.mesh_cycles.proofs.Elements.{edge_dropped}
use Rattle.mesh_cycles.proofs.Completeness.{dart_there}
use Rattle.mesh_records.specs.AtSlots.{StoredEdge, vert_in, edge_in, loop_in, face_in}
use Rattle.mesh_records.specs.ReadOff.{layers_in}
use Rattle.mesh_records.specs.Frames.{SameElements}
use Rattle.mesh_records.specs.Puts.{dart_on}
use Rattle.mesh_records.specs.TakesEdge.{TakesEdge, is_beside, without_edge_at}
use Rattle.mesh_records.proofs.Elements.{same_bare, same_then}
use Rattle.mesh_records.proofs.Filters.{filter_keeps, filter_twice}
use Rattle.mesh_records.proofs.Frames.{darts_same, ends_same}
use Rattle.mesh_records.proofs.Added.{size_along, sizes_then}
use Rattle.mesh_records.proofs.Joins.{vert_size, edge_size}
use Rattle.mesh_records.proofs.Loses.{stays_without, told_left, told_was}

-- every disk cycle is without a dart that was taken out of its own
pub less_all : (old new : Stored) (v : ℕ) (d : Dart) → AreCycles old → dart_end old d ≡ Some v
    → EditsDisk old new v (disk_of old v) (without same_dart d (disk_of old v)) → (w : ℕ)
    → disk_of new w ≡ without same_dart d (disk_of old w)
less_all old new v d h is a w = elim (cases_eq w v) [
  | inl q ↦ (let P = λ (x : ℕ). disk_of new x ≡ without same_dart d (disk_of old x) in subst P (sym q) a.own)
  | inr ne ↦ a.others w ne ∙ sym (filter_keeps (λ x. not (same_dart x d)) (disk_of old w)
      (λ x m. ap not (false_from_ne_true (same_dart x d) (λ e.
      let here : Some w ≡ Some v = sym (h.disk_ends w x m) ∙ ap (dart_end old) (dart_test.one x d e) ∙ is in
      ne (same_Some _ _ here)))))
]

-- a dart of neither side is of another edge
side_cases : (b : Bool) (side : ℕ) → side < 2 → (not (b && (side == 0)) && not (b && (side == 1))) ≡ not b
side_cases false side h = refl
side_cases true zero h = refl
side_cases true (suc zero) h = refl
side_cases true (suc (suc k)) h = absurd (omega arith)

-- where two lists tell the same, they do without one of their cells
told_without : {X Z : Type 0} (tell more : ℕ → X → Z) (xs ys : List (Option X)) (s : ℕ) → s < length xs → s < length ys
    → ((t : ℕ) → option_map (more t) (at ys t) ≡ option_map (tell t) (at xs t))
    → (t : ℕ) → option_map (more t) (at (slice_set ys s None) t) ≡ option_map (tell t) (at (slice_set xs s None) t)
told_without tell more xs ys s low low' same t = elim (cases_eq t s) [
  | inl q ↦
      let P = λ (k : ℕ). option_map (more k) (at (slice_set ys s None) k)
      ≡ option_map (tell k) (at (slice_set xs s None) k) in
      subst P (sym q) (ap (option_map (more s)) (written ys s None low')
      ∙ sym (ap (option_map (tell s)) (written xs s None low)))
  | inr ne ↦ ap (option_map (more t)) (unwritten ys s t None ne) ∙ same t
      ∙ sym (ap (option_map (tell t)) (unwritten xs s t None ne))
]

-- what is told of an edge of a store
told_of : Stored → ℕ → EdgeCell → StoredEdge
told_of st s c = record { number = c.number; ends = c.ends; vals = row_of st.values.edges s }

edges_without : (old two : Stored) (e : Slot) → e.0 < length old.edges.cells → e.0 < length two.edges.cells
    → ((s : ℕ) → edge_in two s ≡ edge_in old s) → (s : ℕ)
    → edge_in (without_edge_at two e) s ≡ edge_in (without_edge_at old e) s
unfolding told_of
edges_without old two e low low' same s =
    told_without (told_of old) (told_of two) old.edges.cells two.edges.cells e.0 low low' same s

module _ (old : Stored) (e : Slot) (c : EdgeCell) (h : HaveCycles old) (is : at old.edges.cells e.0 ≡ Some c) where
  end_there : (side : ℕ) → dart_end old (dart_on e side) ≡ Some (end_on side c)
  end_there side = ap (option_map (end_on side)) is

  pub dart_in : (side : ℕ) → nat_lt side 2 ≡ true → HasMember (disk_of old (end_on side c)) (dart_on e side)
  dart_in side lt = h.complete.disks (end_on side c) (dart_on e side)
      (dart_there old (dart_on e side) (end_on side c) (end_there side) lt) (end_there side)

  module _ (one : Stored) (a : EditsDisk old one (end_on 0 c) (disk_of old (end_on 0 c))
      (without same_dart (dart_on e 0) (disk_of old (end_on 0 c)))) where
    pub second_in : HasMember (disk_of one (end_on 1 c)) (dart_on e 1)
    second_in =
        member_of (dart_on e 1) (stays_without same_dart dart_test (dart_on e 0) (dart_on e 1)
        (disk_of old (end_on 1 c)) (λ q. let s : 1 ≡ 0 = ap (λ (d : Dart). d.side) q in cc) (dart_in 1 refl))
        (sym (less_all old one (end_on 0 c) (dart_on e 0) h.cycles (end_there 0) a (end_on 1 c)))

    module _ (two : Stored) (b : EditsDisk one two (end_on 1 c) (disk_of one (end_on 1 c))
        (without same_dart (dart_on e 1) (disk_of one (end_on 1 c)))) where
      disks_less : (w : ℕ) → disk_of two w ≡ filter (is_beside e) (disk_of old w)
      disks_less w =
          less_all one two (end_on 1 c) (dart_on e 1) a.cycles
          (disk_ends old one (end_on 0 c) a.rest (dart_on e 1) ∙ end_there 1) b w
          ∙ ap (without same_dart (dart_on e 1)) (less_all old one (end_on 0 c) (dart_on e 0) h.cycles (end_there 0) a
          w)
          ∙ filter_twice (λ d. not (same_dart d (dart_on e 1))) (λ d. not (same_dart d (dart_on e 0))) (is_beside e)
          (disk_of old w)
          (λ d m. side_cases (d.edge.0 == e.0) d.side (is_dart old d (member_key d (h.cycles.disks w) m)).1)

      alone : (side : ℕ) → IsInNoDisk two (dart_on e side)
      alone side v m =
          let t = filtered_from (is_beside e) (disk_of old v) (dart_on e side)
          (member_of (dart_on e side) m (disks_less v)) in
          false≢true (ap not (sym (eq-eqb e.0 e.0 refl)) ∙ t.1)

      pub takes_edge : (new : Stored) → radial_of old e.0 ≡ []
          → new ≡ record two { edges = without_cell (λ x. x.number) two.edges e.0 }
          → spare_count new.edges.cells ≡ spare_count two.edges.cells + 1 → TakesEdge old new e
      takes_edge new empty drops spare =
          let none : Option EdgeCell = None in
          let no_name : Option Slot = None in
          let number : EdgeCell → ℕ = λ x. x.number in
          let same = edge_dropped two new e b.cycles alone (b.radials e.0 ∙ a.radials e.0 ∙ empty) drops in
          let k : SameElements old two = same_then (same_bare old one a.stays) (same_bare one two b.stays) in
          let sizes = sizes_then (edge_size old one a.stays) (edge_size one two b.stays) in
          let low = below old.edges.cells e.0 c is in
          let L = λ (j : ℕ). e.0 < j in
          let names : two.edges.names ≡ old.edges.names =
          ap (λ (t : Stored). t.edges.names) b.rest ∙ ap (λ (t : Stored). t.edges.names) a.rest in
          let num = bare_edge_told old two (b.stays ∙ a.stays) (number_in number) (λ x. refl) e.0 in
          let less : SameElements (without_edge_at old e) new = record {
            verts = λ s. ap (λ (t : Stored). vert_in t s) drops ∙ k.verts s;
            edges = λ s. ap (λ (t : Stored). edge_in t s) drops
                ∙ edges_without old two e low (subst L (sym sizes.long) low) k.edges s;
            loops = λ s. ap (λ (t : Stored). loop_in t s) drops ∙ k.loops s;
            faces = λ s. ap (λ (t : Stored). face_in t s) drops ∙ k.faces s;
            vert_names = λ j. ap (λ (t : Stored). at t.verts.names j) drops ∙ k.vert_names j;
            edge_names = λ j. ap (λ (t : Stored). at t.edges.names j) drops
                ∙ ap (λ (xs : List (Option Slot)). at (slice_set xs (number_in number (at two.edges.cells e.0)) no_name)
                j) names
                ∙ ap (λ (i : ℕ). at (slice_set old.edges.names i no_name) j) num;
            face_names = λ j. ap (λ (t : Stored). at t.faces.names j) drops ∙ k.face_names j;
            layers = ap layers_in drops ∙ k.layers;
          } in
          let disks = λ (v : ℕ). same.disks v ∙ disks_less v in
          record {
            elements = less;
            values = ap (λ (t : Stored). t.values) drops ∙ ap (λ (t : Stored). t.values) b.stays
                ∙ ap (λ (t : Stored). t.values) a.stays;
            cycles = same.cycles;
            disks = disks;
            radials = λ d. same.radials d ∙ b.radials d ∙ a.radials d;
            rounds = λ f. same.rounds f ∙ b.rounds f ∙ a.rounds f;
            complete = λ v d has end.
                let t = d.edge.0 in
                let told = sym (ends_same (without_edge_at old e) new less d) ∙ end in
                let ne = told_left (λ (j : ℕ) (x : EdgeCell). end_on d.side x) old.edges.cells e.0 low t v told in
                let was = told_was (λ (j : ℕ) (x : EdgeCell). end_on d.side x) old.edges.cells e.0 low t v told in
                let has' = sym (darts_same (without_edge_at old e) new less d
                ∙ ap (λ (o : Option EdgeCell). is_some o && nat_lt d.side 2)
                (unwritten old.edges.cells e.0 t none ne)) ∙ has in
                let m = h.complete.disks v d has' was in
                member_of d (filtered_to (is_beside e) (disk_of old v) d m
                (ap not (false_from_ne_true (t == e.0) (λ x. ne (eqb-true t e.0 x))))) (sym (disks v));
            lens = λ f. ap (λ (t : Stored). len_of t f) drops ∙ disk_lens one two (end_on 1 c) b.rest f
                ∙ disk_lens old one (end_on 0 c) a.rest f;
            spare = spare ∙ ap (λ (j : ℕ). j + 1) sizes.spare;
            long = ap (λ (t : Stored). length t.edges.cells) drops ∙ length-set two.edges.cells e.0 none ∙ sizes.long;
            edge_reach = ap (λ (t : Stored). length t.edges.names) drops
                ∙ length-set two.edges.names (number_in number (at two.edges.cells e.0)) no_name
                ∙ ap (λ (xs : List (Option Slot)). length xs) names;
            verts = sizes_then (sizes_then (vert_size old one a.stays) (vert_size one two b.stays))
                (size_along (ap (λ (t : Stored). t.verts.cells) drops));
            vert_reach = ap (λ (t : Stored). length t.verts.names) drops
                ∙ ap (λ (t : Stored). length t.verts.names) b.rest ∙ ap (λ (t : Stored). length t.verts.names) a.rest;
            loops = ap (λ (t : Stored). t.loops) drops ∙ ap (λ (t : Stored). t.loops) b.rest
                ∙ ap (λ (t : Stored). t.loops) a.rest;
            faces = ap (λ (t : Stored). t.faces) drops ∙ ap (λ (t : Stored). t.faces) b.rest
                ∙ ap (λ (t : Stored). t.faces) a.rest;
          }

-- The edges of the cycle around a vertex are the edges that end there.
use Rattle.std.proofs.Common.{◌≡◌, ◌<◌, ◌==◌, ◌||◌, ℕ, zero, suc, Bool, true, false, is_some, nat_lt, Option, Some, None, length, refl, sym, ap, ◌∙◌, subst, inl, inr, arith}
use Rattle.std.specs.Option.{option_map, option_and_then}
use Rattle.std.proofs.lemmas.Bool.{cases_lt, or_cases, eqb-true, eq-eqb}
use Rattle.std.proofs.lemmas.List.{get_or_past}
use Rattle.raw_pool.specs.declared.pool.Slot.{Slot}
use Rattle.link_ring.specs.Members.{HasMember, AllDistinct}
use Rattle.link_ring.specs.Mapped.{mapped_from, mapped_to, distinct_map}
use Rattle.mesh_store.specs.Limits.{is_dart}
use Rattle.mesh_store.specs.Slots.{at}
use Rattle.mesh_store.specs.Stored.{Stored}
use Rattle.mesh_store.specs.declared.cells.Dart.{Dart}
use Rattle.mesh_cycles.specs.Owners.{dart_end}
use Rattle.mesh_cycles.specs.Cycles.{disk_of}
use Rattle.mesh_cycles.specs.Found.{edges_around}
use Rattle.mesh_cycles.proofs.Around.{edges_once, edge_live}
use Rattle.mesh_cycles.proofs.RingLists.{member_key}
use Rattle.mesh_cycles.proofs.Completeness.{dart_there}
use Rattle.mesh_model.specs.Table.{passes}
use Rattle.mesh_model.specs.Incidence.{has_end, edges_at}
use Rattle.mesh_model.specs.declared.names.EdgeName.{EdgeName}
use Rattle.mesh_model.specs.declared.records.EdgeRec.{EdgeRec}
use Rattle.mesh_model.specs.declared.records.Counters.{Counters}
use Rattle.mesh_records.specs.ReadOff.{NameLists}
use Rattle.mesh_records.specs.AtSlots.{StoredEdge, vert_in, edge_in, end_of, IsAt}
use Rattle.mesh_records.specs.ReadOff.{table, vert_name, edge_name, edge_rec, edge_at, names_around, read_off}
use Rattle.mesh_records.specs.StandsFor.{ListsOnce}
use Rattle.mesh_records.specs.Whole.{IsWhole}
use Rattle.mesh_records.proofs.Options.{has_key}
use Rattle.mesh_records.proofs.Elements.{edge_is_at, dart_end_in}
use Rattle.mesh_records.proofs.ByName.{led_to, edges_all, edge_leads, edge_named, vert_leads, vert_named}
use Rattle.mesh_records.proofs.Listing.{numbered_from, numbered_to}

-- a name from its number
edge_of_number : ℕ → EdgeName
edge_of_number k = record { 0 = k }

-- the second of two may hold
or_right : (x y : Bool) → y ≡ true → (x || y) ≡ true
or_right true y h = refl
or_right false y h = h

or_left : (x y : Bool) → x ≡ true → (x || y) ≡ true
or_left true y h = refl
or_left false y h = absurd (let no : false ≡ true = h in cc)

module _ (st : Stored) (n : Counters) (lists : NameLists) (w : IsWhole st n) (v : ℕ) (s : Slot)
    (named : at st.verts.names v ≡ Some s) where
  -- an end at the slot has the name
  pub end_named : (t : ℕ) → t ≡ s.0 → (vert_name st t).0 ≡ v
  end_named t e = ap (λ (k : ℕ). (vert_name st k).0) e ∙ vert_named st n w.records v s named

  -- and an end with the name is at the slot
  pub named_end : (t : ℕ) → IsAt (vert_in st) t → (vert_name st t).0 ≡ v → t ≡ s.0
  named_end t is e =
      let both : Some (record { 0 = t }) ≡ Some s =
      sym (vert_leads st n w.records (record { 0 = t }) is) ∙ ap (λ (k : ℕ). at st.verts.names k) e ∙ named in
      ap (λ (o : Option Slot). elim o [ None ↦ t | Some x ↦ x.0 ]) both

  -- an edge of which one dart is around the slot ends at the vertex
  one_end : (side : ℕ) (e : StoredEdge) → side < 2 → end_of side e ≡ s.0
      → has_end (record { 0 = v }) (edge_rec st e) ≡ true
  one_end zero e low q = or_left ((vert_name st (end_of 0 e)).0 == v) ((vert_name st (end_of 1 e)).0 == v)
      (eq-eqb (vert_name st (end_of 0 e)).0 v (end_named (end_of 0 e) q))
  one_end (suc zero) e low q = or_right ((vert_name st (end_of 0 e)).0 == v) ((vert_name st (end_of 1 e)).0 == v)
      (eq-eqb (vert_name st (end_of 1 e)).0 v (end_named (end_of 1 e) q))
  one_end (suc (suc side)) e low q = absurd (omega arith)

  -- what stands at the name of a slot
  pub edge_here : (t : Slot) (e : StoredEdge) → edge_in st t.0 ≡ Some e
      → at (table (edge_at st) n.edges) (edge_name st t.0).0 ≡ Some (edge_rec st e)
  edge_here t e is =
      edges_all st n w.records (edge_name st t.0).0
      ∙ ap (option_and_then (λ (x : Slot). option_map (edge_rec st) (edge_in st x.0)))
      (edge_leads st n w.records t (ap (λ (o : Option StoredEdge). is_some o) is))
      ∙ ap (option_map (edge_rec st)) is

  name_low : (k : ℕ) (e : EdgeRec) → at (table (edge_at st) n.edges) k ≡ Some e
      → k < length (table (edge_at st) n.edges)
  name_low k e is = elim (cases_lt k (length (table (edge_at st) n.edges))) [
    | inl lt ↦ lt
    | inr ge ↦ (let q : None ≡ Some e = sym (get_or_past (table (edge_at st) n.edges) k None ge) ∙ is in cc)
  ]

  around_listed : (x : EdgeName) → HasMember (names_around st s) x
      → HasMember (edges_at (read_off st n lists) (record { 0 = v })) x
  unfolding edge_of_number
  around_listed x h =
      let t = mapped_from (λ (e : Slot). edge_name st e.0) (edges_around st s.0) x h in
      let d = mapped_from (λ (y : Dart). y.edge) (disk_of st s.0) t.of t.member in
      let ends = dart_end_in st d.of ∙ w.cycles.cycles.disk_ends s.0 d.of d.member in
      let e = has_key (end_of d.of.side) (edge_in st d.of.edge.0) s.0 ends in
      let low = (is_dart st d.of (member_key d.of (w.cycles.cycles.disks s.0) d.member)).1 in
      let here = edge_here d.of.edge e.cell e.is in
      let k = (edge_name st d.of.edge.0).0 in
      let P = HasMember (edges_at (read_off st n lists) (record { 0 = v })) in
      let name : edge_of_number k ≡ x = ap (λ (y : Slot). edge_name st y.0) d.is ∙ t.is in
      subst P name (numbered_to None edge_of_number (passes (has_end (record { 0 = v }))) (table (edge_at st) n.edges) k
      (name_low k (edge_rec st e.cell) here)
      (ap (passes (has_end (record { 0 = v }))) here ∙ one_end d.of.side e.cell low e.same))

  -- the dart of an edge on a side at which it ends at the vertex is around the slot
  on_side : (t : Slot) (e : StoredEdge) (side : ℕ) → nat_lt side 2 ≡ true → edge_in st t.0 ≡ Some e
      → IsAt (vert_in st) (end_of side e) → (vert_name st (end_of side e)).0 ≡ v
      → HasMember (names_around st s) (edge_name st t.0)
  on_side t e side low is live name =
      let d : Dart = record { edge = t; side = side } in
      let ends : dart_end st d ≡ Some s.0 = sym (dart_end_in st d) ∙ ap (option_map (end_of side)) is
      ∙ ap (λ (j : ℕ). Some j) (named_end (end_of side e) live name) in
      let member = w.cycles.complete.disks s.0 d (dart_there st d s.0 ends low) ends in
      mapped_to (λ (y : Slot). edge_name st y.0) (edges_around st s.0) t
      (mapped_to (λ (y : Dart). y.edge) (disk_of st s.0) d member)

  listed_around : (x : EdgeName) → HasMember (edges_at (read_off st n lists) (record { 0 = v })) x
      → HasMember (names_around st s) x
  unfolding edge_of_number
  listed_around x h =
      let p = numbered_from None edge_of_number (passes (has_end (record { 0 = v }))) (table (edge_at st) n.edges) x h
      in
      let c = there_passing (has_end (record { 0 = v })) (at (table (edge_at st) n.edges) p.number) p.passed in
      let d = led_to (λ (t : Slot). edge_in st t.0) (λ (t : Slot). edge_rec st) (at st.edges.names p.number) c.0
      (sym (edges_all st n w.records p.number) ∙ c.1) in
      let e = d.value in
      let ends : has_end (record { 0 = v }) (edge_rec st e) ≡ true = ap (has_end (record { 0 = v })) d.same ∙ c.2 in
      let name : edge_name st d.slot.0 ≡ x = (λ i. edge_of_number (edge_named st n w.records p.number d.slot d.leads i))
      ∙ p.named in
      let P = HasMember (names_around st s) in
      subst P name (elim (or_cases ((vert_name st (end_of 0 e)).0 == v) ((vert_name st (end_of 1 e)).0 == v) ends) [
        | inl a ↦ on_side d.slot e 0 refl d.is (w.records.linked.a d.slot.0 e d.is)
            (eqb-true (vert_name st (end_of 0 e)).0 v a)
        | inr b ↦ on_side d.slot e 1 refl d.is (w.records.linked.b d.slot.0 e d.is)
            (eqb-true (vert_name st (end_of 1 e)).0 v b)
      ])
    where
      there_passing : {X : Type 0} (test : X → Bool) (o : Option X) → passes test o ≡ true
          → (y : X) × (o ≡ Some y) × (test y ≡ true)
      there_passing test None q = absurd (let no : false ≡ true = q in cc)
      there_passing test (Some y) q = (y, refl, q)

  around_once : AllDistinct (names_around st s)
  around_once =
      distinct_map (λ (e : Slot). edge_name st e.0) (edges_around st s.0)
      (λ a b p q e.
      let x = edge_leads st n w.records a (edge_is_at st a.0 (edge_live st w.cycles.cycles s.0 a p)) in
      let y = edge_leads st n w.records b (edge_is_at st b.0 (edge_live st w.cycles.cycles s.0 b q)) in
      let both : Some a ≡ Some b = sym x ∙ ap (λ (k : EdgeName). at st.edges.names k.0) e ∙ y in
      ap (λ (o : Option Slot). elim o [ None ↦ a | Some z ↦ z ]) both)
      (edges_once st w.cycles.cycles s.0)

  pub around_lists : ListsOnce (names_around st s) (edges_at (read_off st n lists) (record { 0 = v }))
  around_lists = record { once = around_once; same = λ x. (around_listed x, listed_around x) }

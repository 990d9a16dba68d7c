-- The least edge that joins two vertices, by slot and by name.
use Rattle.std.proofs.Common.{◌≡◌, ◌<◌, ◌==◌, ◌&&◌, ◌||◌, ℕ, Bool, true, false, is_some, Option, Some, None, refl, sym, ap, ◌∙◌, inl, inr, arith}
use Rattle.std.specs.Option.{option_map, option_map_or, option_and_then}
use Rattle.std.proofs.lemmas.Bool.{cases_eq, eqb-true, eq-eqb, false≢true, false_from_ne_true}
use Rattle.std.proofs.lemmas.Iterator.Adapters.{position_from-zero}
use Rattle.cust_data.proofs.Finding.{position_at}
use Rattle.cust_data.specs.Layers.{row_of}
use Rattle.raw_pool.specs.declared.pool.Slot.{Slot}
use Rattle.raw_pool.specs.Slots.{IsLive, holds}
use Rattle.mesh_store.specs.Slots.{at}
use Rattle.mesh_store.specs.Stored.{Stored}
use Rattle.mesh_store.specs.declared.cells.EdgeCell.{EdgeCell}
use Rattle.mesh_cycles.specs.Owners.{end_on}
use Rattle.mesh_cycles.specs.Found.{joins as joins_at, NoneJoins, JoinsFirst, number_of}
use Rattle.mesh_model.specs.Table.{passes}
use Rattle.mesh_model.specs.Incidence.{joins, edge_joining}
use Rattle.mesh_model.specs.declared.names.VertName.{VertName}
use Rattle.mesh_model.specs.declared.names.EdgeName.{EdgeName}
use Rattle.mesh_model.specs.declared.records.Counters.{Counters}
use Rattle.mesh_model.proofs.Reading.{none_at}
use Rattle.mesh_records.specs.AtSlots.{StoredEdge, vert_in, edge_in, IsAt}
use Rattle.mesh_records.specs.ReadOff.{table, vert_name, edge_name, edge_rec, edge_at}
use Rattle.mesh_records.specs.Whole.{IsWhole}
use Rattle.mesh_records.proofs.Options.{has_key}
use Rattle.mesh_records.proofs.ByName.{led_to, edges_all, edge_leads, vert_leads, vert_named}
use Rattle.mesh_records.proofs.Gone.{passes_below}

-- what passes is something that passes
passing : {X : Type 0} (test : X → Bool) (o : Option X) → passes test o ≡ true
    → (x : X) × (o ≡ Some x) × (test x ≡ true)
passing test None h = absurd (false≢true h)
passing test (Some x) h = (x, refl, h)

-- what is told of a value if there is one is told of one that is there
or_there : {X : Type 0} (test : X → Bool) (o : Option X) → option_map_or test o false ≡ true → (x : X) × (o ≡ Some x)
or_there test None h = absurd (false≢true h)
or_there test (Some x) h = (x, refl)

-- an edge that joins two slots is live
pub joined_live : (st : Stored) (s t : ℕ) (e : Slot) → joins_at st s t e ≡ true → IsLive st.edges.cells e.0
joined_live st s t e h =
    let c = or_there (λ (k : EdgeCell). ((end_on 0 k == s) && (end_on 1 k == t)) ||
    ((end_on 0 k == t) && (end_on 1 k == s))) (at st.edges.cells e.0) h in
    ap (λ (o : Option EdgeCell). holds o) c.1

module _ (st : Stored) (n : Counters) (w : IsWhole st n) (a b : VertName) (s t : Slot)
    (at_a : at st.verts.names a.0 ≡ Some s) (at_b : at st.verts.names b.0 ≡ Some t) where
  tell : ℕ → EdgeCell → StoredEdge
  tell k c = record { number = c.number; ends = c.ends; vals = row_of st.values.edges k }

  -- an end has the name of a vertex just where it is at the vertex's slot
  same_end : (x : ℕ) (v : VertName) (r : Slot) → at st.verts.names v.0 ≡ Some r → IsAt (vert_in st) x
      → ((vert_name st x).0 == v.0) ≡ (x == r.0)
  same_end x v r named is = elim (cases_eq x r.0) [
    | inl q ↦ eq-eqb (vert_name st x).0 v.0 (ap (λ (i : ℕ). (vert_name st i).0) q
        ∙ vert_named st n w.records v.0 r named) ∙ sym (eq-eqb x r.0 q)
    | inr ne ↦ false_from_ne_true ((vert_name st x).0 == v.0) (λ e.
        let leads = vert_leads st n w.records (record { 0 = x }) is in
        let both : Some (record { 0 = x }) ≡ Some r =
        sym leads ∙ ap (λ (i : ℕ). at st.verts.names i) (eqb-true (vert_name st x).0 v.0 e) ∙ named in
        ne (ap (λ (o : Option Slot). elim o [ None ↦ x | Some y ↦ y.0 ]) both))
        ∙ sym (false_from_ne_true (x == r.0) (λ e. ne (eqb-true x r.0 e)))
  ]

  same_joins : (e : Slot) (c : EdgeCell) → at st.edges.cells e.0 ≡ Some c
      → joins a b (edge_rec st (tell e.0 c)) ≡ joins_at st s.0 t.0 e
  unfolding tell
  same_joins e c is =
      let x : StoredEdge = record { number = c.number; ends = c.ends; vals = row_of st.values.edges e.0 } in
      let here : edge_in st e.0 ≡ Some x = ap (option_map (λ (k : EdgeCell). let y : StoredEdge =
      record { number = k.number; ends = k.ends; vals = row_of st.values.edges e.0 } in y)) is in
      let live_a = w.records.linked.a e.0 x here in
      let live_b = w.records.linked.b e.0 x here in
      let aa = same_end (end_on 0 c) a s at_a live_a in
      let ab = same_end (end_on 0 c) b t at_b live_a in
      let ba = same_end (end_on 1 c) a s at_a live_b in
      let bb = same_end (end_on 1 c) b t at_b live_b in
      let test = λ (k : EdgeCell). ((end_on 0 k == s.0) && (end_on 1 k == t.0)) ||
      ((end_on 0 k == t.0) && (end_on 1 k == s.0)) in
      let ends : joins a b (edge_rec st x) ≡ test c = λ i. (aa i && bb i) || (ab i && ba i) in
      ends ∙ sym (ap (λ (o : Option EdgeCell). option_map_or test o false) is)

  -- the edge at a slot stands at its name
  edge_here : (e : Slot) (c : EdgeCell) → at st.edges.cells e.0 ≡ Some c
      → at (table (edge_at st) n.edges) (edge_name st e.0).0 ≡ Some (edge_rec st (tell e.0 c))
  unfolding tell
  edge_here e c is =
      let told = ap (option_map (λ (k : EdgeCell). let y : StoredEdge =
      record { number = k.number; ends = k.ends; vals = row_of st.values.edges e.0 } in y)) is in
      edges_all st n w.records (edge_name st e.0).0
      ∙ ap (option_and_then (λ (x : Slot). option_map (edge_rec st) (edge_in st x.0)))
      (edge_leads st n w.records e (ap (λ (o : Option StoredEdge). is_some o) told))
      ∙ ap (option_map (edge_rec st)) told

  -- an edge by name that joins the two, at its slot
  record Joining (k : ℕ) : Type 0 where
    edge : Slot
    joined : joins_at st s.0 t.0 edge ≡ true
    named : number_of st edge ≡ k

  joining : (k : ℕ) → passes (joins a b) (at (table (edge_at st) n.edges) k) ≡ true → Joining k
  unfolding tell
  joining k h =
      let p = passing (joins a b) (at (table (edge_at st) n.edges) k) h in
      let d = led_to (λ (x : Slot). edge_in st x.0) (λ (x : Slot). edge_rec st) (at st.edges.names k) p.0
      (sym (edges_all st n w.records k) ∙ p.1) in
      let c = has_key (λ (x : EdgeCell). let y : StoredEdge =
      record { number = x.number; ends = x.ends; vals = row_of st.values.edges d.slot.0 } in y)
      (at st.edges.cells d.slot.0) d.value d.is in
      record {
        edge = d.slot;
        joined = sym (same_joins d.slot c.cell c.is) ∙ ap (λ (x : StoredEdge). joins a b (edge_rec st x)) c.same
            ∙ ap (joins a b) d.same ∙ p.2;
        named = number-is d.slot k (w.records.named.edges.live k d.slot d.leads);
      }
    where
      number-is : (e : Slot) (j : ℕ) → option_map (λ (c : EdgeCell). c.number) (at st.edges.cells e.0) ≡ Some j
          → number_of st e ≡ j
      number-is e j q =
          let c = has_key (λ (x : EdgeCell). x.number) (at st.edges.cells e.0) j q in
          ap (λ (o : Option EdgeCell). option_map_or (λ (x : EdgeCell). x.number) o 0) c.is ∙ c.same

  pub none_joining : NoneJoins st s.0 t.0 → edge_joining (table (edge_at st) n.edges) a b ≡ None
  none_joining none =
      let edges = table (edge_at st) n.edges in
      let test = passes (joins a b) in
      ap (option_map (λ (k : ℕ). let e : EdgeName = record { 0 = k } in e))
      (position_from-zero test edges ∙ none_at test 0 edges None (λ k lt.
      false_from_ne_true (test (at edges k)) (λ h. let j = joining k h in none j.edge j.joined)))

  pub first_joining : (e : Slot) (k : ℕ) → JoinsFirst st s.0 t.0 e
      → option_map (λ (c : EdgeCell). c.number) (at st.edges.cells e.0) ≡ Some k
      → edge_joining (table (edge_at st) n.edges) a b ≡ Some (record { 0 = k })
  unfolding tell
  first_joining e k first number =
      let edges = table (edge_at st) n.edges in
      let test = passes (joins a b) in
      let c = has_key (λ (x : EdgeCell). x.number) (at st.edges.cells e.0) k number in
      let name : (edge_name st e.0).0 ≡ k =
      ap (λ (o : Option EdgeCell). option_map_or (λ (x : StoredEdge). x.number)
      (option_map (λ (x : EdgeCell). let y : StoredEdge =
      record { number = x.number; ends = x.ends; vals = row_of st.values.edges e.0 } in y) o) 0) c.is ∙ c.same in
      let own : number_of st e ≡ k = ap (λ (o : Option EdgeCell). option_map_or (λ (x : EdgeCell). x.number) o 0) c.is
      ∙ c.same in
      let here : test (at edges k) ≡ true =
      ap (λ (i : ℕ). test (at edges i)) (sym name) ∙ ap test (edge_here e c.cell c.is) ∙ same_joins e c.cell c.is
      ∙ first.joined in
      let before = λ (j : ℕ) (lt : j < k). false_from_ne_true (test (at edges j)) (λ h.
      let q = joining j h in
      let le = first.least q.edge q.joined in
      let named = q.named in
      absurd (omega arith)) in
      ap (option_map (λ (i : ℕ). let x : EdgeName = record { 0 = i } in x))
      (position_at test edges k None (passes_below (joins a b) edges k here) before here)

-- The loops around a vertex are the corners there whose edges end there.
use Rattle.std.proofs.Common.{◌≡◌, ◌==◌, ◌&&◌, ◌||◌, ℕ, Bool, false, Option, Some, map, sym, ap, ◌∙◌, inl, inr}
use Rattle.std.specs.Option.{option_map, option_map_or}
use Rattle.std.proofs.lemmas.Bool.{cases_eq, eqb-true, eq-eqb, false_from_ne_true}
use Rattle.cust_data.specs.Layers.{row_of}
use Rattle.raw_pool.specs.declared.pool.Slot.{Slot}
use Rattle.mesh_store.specs.Slots.{at}
use Rattle.mesh_store.specs.Stored.{Stored}
use Rattle.mesh_store.specs.declared.cells.EdgeCell.{EdgeCell}
use Rattle.mesh_store.specs.declared.cells.LoopCell.{LoopCell}
use Rattle.mesh_cycles.specs.Owners.{end_on}
use Rattle.mesh_cycles.specs.Found.{loops_around, is_corner_at, stands_at, ends_at}
use Rattle.mesh_cycles.proofs.Around.{around_live, loops_once}
use Rattle.mesh_cycles.proofs.Cells.{live_cell}
use Rattle.mesh_cycles.proofs.Faces.{all_corners}
use Rattle.mesh_model.specs.Table.{passes}
use Rattle.mesh_model.specs.Incidence.{has_end}
use Rattle.mesh_model.specs.declared.names.VertName.{VertName}
use Rattle.mesh_model.specs.declared.records.Counters.{Counters}
use Rattle.mesh_model.specs.declared.records.EdgeRec.{EdgeRec}
use Rattle.mesh_records.specs.ReadOff.{NameLists}
use Rattle.mesh_records.specs.AtSlots.{StoredEdge, StoredLoop, vert_in, edge_in, loop_in, end_of, IsAt}
use Rattle.mesh_records.specs.ReadOff.{vert_name, no_corner, loop_rec, corner_rec, read_off}
use Rattle.mesh_records.specs.StandsFor.{ListsOnce, place_of}
use Rattle.mesh_records.specs.Order.{has_corner_at, corners_of_vert}
use Rattle.mesh_records.specs.Whole.{IsWhole}
use Rattle.mesh_records.proofs.AroundVert.{end_named, named_end, edge_here}
use Rattle.mesh_records.proofs.CornersWhere.{corners_list}
use Rattle.mesh_records.proofs.Elements.{edge_live, loop_is_at, loop_live}

module _ (st : Stored) (n : Counters) (lists : NameLists) (w : IsWhole st n) (v : VertName) (s : Slot)
    (named : at st.verts.names v.0 ≡ Some s) where
  -- a slot is that of the vertex just where its name is
  name_same : (t : ℕ) → IsAt (vert_in st) t → (t == s.0) ≡ ((vert_name st t).0 == v.0)
  name_same t is = elim (cases_eq t s.0) [
    | inl e ↦ eq-eqb t s.0 e ∙ sym (eq-eqb (vert_name st t).0 v.0 (end_named st n lists w v.0 s named t e))
    | inr ne ↦
        false_from_ne_true (t == s.0) (λ q. ne (eqb-true t s.0 q))
        ∙ sym (false_from_ne_true ((vert_name st t).0 == v.0)
        (λ q. ne (named_end st n lists w v.0 s named t is (eqb-true (vert_name st t).0 v.0 q))))
  ]

  -- a loop is a corner at the slot just where its record is one at the vertex
  corner_same : (l : Slot) → IsAt (loop_in st) l.0
      → is_corner_at st s.0 l ≡ has_corner_at (read_off st n lists) v (corner_rec st l)
  corner_same l is =
      let c = live_cell st.loops l.0 (loop_live st l.0 is) in
      let tell = λ (x : LoopCell). let y : StoredLoop =
      record { vert = x.vert; edge = x.edge; face = x.face; vals = row_of st.values.loops l.0 } in y in
      let loop : loop_in st l.0 ≡ Some (tell c.0) = ap (option_map tell) c.1 in
      let e = c.0.edge in
      let d = live_cell st.edges.cells e.0 (edge_live st e.0 (w.records.linked.edge l.0 (tell c.0) loop)) in
      let told = λ (x : EdgeCell). let y : StoredEdge =
      record { number = x.number; ends = x.ends; vals = row_of st.values.edges e.0 } in y in
      let edge : edge_in st e.0 ≡ Some (told d.0) = ap (option_map told) d.1 in
      let vert = name_same c.0.vert.0 (w.records.linked.vert l.0 (tell c.0) loop) in
      let a = name_same (end_of 0 (told d.0)) (w.records.linked.a e.0 (told d.0) edge) in
      let b = name_same (end_of 1 (told d.0)) (w.records.linked.b e.0 (told d.0) edge) in
      let here = edge_here st n lists w v.0 s named e (told d.0) edge in
      let stands : stands_at st s.0 l ≡ (c.0.vert.0 == s.0) =
      ap (λ (o : Option LoopCell). option_map_or (λ (x : LoopCell). x.vert.0 == s.0) o false) c.1 in
      let ends : option_map_or (λ (x : LoopCell). ends_at st s.0 x.edge) (at st.loops l.0) false
      ≡ ((end_on 0 d.0 == s.0) || (end_on 1 d.0 == s.0)) =
      ap (λ (o : Option LoopCell). option_map_or (λ (x : LoopCell). ends_at st s.0 x.edge) o false) c.1
      ∙ ap (λ (o : Option EdgeCell). option_map_or (λ (x : EdgeCell). (end_on 0 x == s.0) || (end_on 1 x == s.0)) o
      false) d.1 in
      let rec : corner_rec st l ≡ loop_rec st (tell c.0) =
      ap (λ (o : Option StoredLoop). option_map_or (loop_rec st) o no_corner) loop in
      let both : (let x : Bool = (c.0.vert.0 == s.0) && ((end_on 0 d.0 == s.0) || (end_on 1 d.0 == s.0)) in x)
      ≡ (((vert_name st c.0.vert.0).0 == v.0) && (((vert_name st (end_of 0 (told d.0))).0 == v.0) ||
      ((vert_name st (end_of 1 (told d.0))).0 == v.0))) =
      λ i. vert i && (a i || b i) in
      (λ i. stands i && ends i) ∙ both
      ∙ sym (ap (has_corner_at (read_off st n lists) v) rec
      ∙ ap (λ (o : Option EdgeRec). ((vert_name st c.0.vert.0).0 == v.0) && passes (has_end v) o) here)

  pub around_corners : ListsOnce (map (place_of st) (loops_around st s.0)) (corners_of_vert (read_off st n lists) v)
  around_corners =
      let all = all_corners st w.cycles.cycles s.0 w.cycles.complete in
      let live = around_live st w.cycles.cycles s.0 in
      corners_list st n lists w (has_corner_at (read_off st n lists) v) (loops_around st s.0)
      (loops_once st w.cycles.cycles s.0) live
      (λ l m. sym (corner_same l (loop_is_at st l.0 (live l m))) ∙ (all l).0 m)
      (λ l is p. (all l).1 (corner_same l is ∙ p))

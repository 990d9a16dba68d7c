-- What a live element names is live.
use Rattle.std.proofs.Common.{◌≡◌, ◌<◌, ℕ, suc, zero, List, Some, ap, subst, arith}
use Rattle.std.specs.Prelude.{slice_index_or}
use Rattle.std.specs.Option.{option_map}
use Rattle.cust_data.specs.Layers.{row_of}
use Rattle.raw_pool.specs.declared.pool.Slot.{Slot}
use Rattle.raw_pool.specs.Slots.{IsLive}
use Rattle.mesh_store.specs.Slots.{at}
use Rattle.mesh_store.specs.Stored.{Stored, no_slot}
use Rattle.mesh_store.specs.declared.cells.EdgeCell.{EdgeCell}
use Rattle.mesh_store.specs.declared.cells.LoopCell.{LoopCell}
use Rattle.mesh_cycles.specs.Owners.{dart_end, end_on}
use Rattle.mesh_records.specs.Puts.{dart_on}
use Rattle.mesh_records.specs.AtSlots.{StoredEdge, StoredLoop}
use Rattle.mesh_records.specs.Whole.{AreLinked}
use Rattle.mesh_records.proofs.Options.{has_key}
use Rattle.mesh_records.proofs.Elements.{vert_live, edge_live, face_live}

module _ (st : Stored) (h : AreLinked st) where
  -- the two ends of an edge
  pub first_end : (e : Slot) (ends : List Slot)
      → option_map (λ (x : EdgeCell). x.ends) (at st.edges.cells e.0) ≡ Some ends
      → IsLive st.verts.cells (slice_index_or ends 0 no_slot).0
  first_end e ends q =
      let k = has_key (λ (x : EdgeCell). x.ends) (at st.edges.cells e.0) ends q in
      let tell = λ (x : EdgeCell). let y : StoredEdge =
      record { number = x.number; ends = x.ends; vals = row_of st.values.edges e.0 } in y in
      let P = λ (es : List Slot). IsLive st.verts.cells (slice_index_or es 0 no_slot).0 in
      subst P k.same (vert_live st (slice_index_or k.cell.ends 0 no_slot).0
      (h.a e.0 (tell k.cell) (ap (option_map tell) k.is)))

  pub second_end : (e : Slot) (ends : List Slot)
      → option_map (λ (x : EdgeCell). x.ends) (at st.edges.cells e.0) ≡ Some ends
      → IsLive st.verts.cells (slice_index_or ends 1 no_slot).0
  second_end e ends q =
      let k = has_key (λ (x : EdgeCell). x.ends) (at st.edges.cells e.0) ends q in
      let tell = λ (x : EdgeCell). let y : StoredEdge =
      record { number = x.number; ends = x.ends; vals = row_of st.values.edges e.0 } in y in
      let P = λ (es : List Slot). IsLive st.verts.cells (slice_index_or es 1 no_slot).0 in
      subst P k.same (vert_live st (slice_index_or k.cell.ends 1 no_slot).0
      (h.b e.0 (tell k.cell) (ap (option_map tell) k.is)))

  -- the face of a loop
  pub loop_face : (l f : Slot) → option_map (λ (x : LoopCell). x.face) (at st.loops l.0) ≡ Some f
      → IsLive st.faces.cells f.0
  loop_face l f q =
      let k = has_key (λ (x : LoopCell). x.face) (at st.loops l.0) f q in
      let tell = λ (x : LoopCell). let y : StoredLoop =
      record { vert = x.vert; edge = x.edge; face = x.face; vals = row_of st.values.loops l.0 } in y in
      let P = λ (g : Slot). IsLive st.faces.cells g.0 in
      subst P k.same (face_live st k.cell.face.0 (h.face l.0 (tell k.cell) (ap (option_map tell) k.is)))

  -- the vertex and the edge of a loop
  pub loop_vert : (l v : Slot) → option_map (λ (x : LoopCell). x.vert) (at st.loops l.0) ≡ Some v
      → IsLive st.verts.cells v.0
  loop_vert l v q =
      let k = has_key (λ (x : LoopCell). x.vert) (at st.loops l.0) v q in
      let tell = λ (x : LoopCell). let y : StoredLoop =
      record { vert = x.vert; edge = x.edge; face = x.face; vals = row_of st.values.loops l.0 } in y in
      let P = λ (g : Slot). IsLive st.verts.cells g.0 in
      subst P k.same (vert_live st k.cell.vert.0 (h.vert l.0 (tell k.cell) (ap (option_map tell) k.is)))

  pub loop_edge : (l e : Slot) → option_map (λ (x : LoopCell). x.edge) (at st.loops l.0) ≡ Some e
      → IsLive st.edges.cells e.0
  loop_edge l e q =
      let k = has_key (λ (x : LoopCell). x.edge) (at st.loops l.0) e q in
      let tell = λ (x : LoopCell). let y : StoredLoop =
      record { vert = x.vert; edge = x.edge; face = x.face; vals = row_of st.values.loops l.0 } in y in
      let P = λ (g : Slot). IsLive st.edges.cells g.0 in
      subst P k.same (edge_live st k.cell.edge.0 (h.edge l.0 (tell k.cell) (ap (option_map tell) k.is)))

-- an end of an edge is live
pub end_live : (st : Stored) → AreLinked st → (e : Slot) (side : ℕ) → side < 2 → (v : ℕ)
    → dart_end st (dart_on e side) ≡ Some v → IsLive st.verts.cells v
end_live st h e side low v is =
    let k = has_key (end_on side) (at st.edges.cells e.0) v is in
    let P = λ (x : ℕ). IsLive st.verts.cells x in
    let told = ap (option_map (λ (x : EdgeCell). x.ends)) k.is in
    subst P k.same (by_side side low k.cell (first_end st h e k.cell.ends told) (second_end st h e k.cell.ends told))
  where
    by_side : (j : ℕ) → j < 2 → (c : EdgeCell) → IsLive st.verts.cells (end_on 0 c) → IsLive st.verts.cells (end_on 1 c)
        → IsLive st.verts.cells (end_on j c)
    by_side zero lt c p q = p
    by_side (suc zero) lt c p q = q
    by_side (suc (suc j)) lt c p q = absurd (omega arith)

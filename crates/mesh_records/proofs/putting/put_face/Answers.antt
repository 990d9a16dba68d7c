use Rattle.std.proofs.Common.{◌≡◌, ◌+◌, ℕ, is_some, List, Option, length, map, take, slice_index_or, sym, ap, ◌∙◌, subst, arith}
use Rattle.std.proofs.lemmas.List.{length-map, take_all}
use Rattle.cust_data.specs.Layers.{LayerTable, with_row}
use Rattle.raw_pool.specs.declared.pool.Slot.{Slot}
use Rattle.raw_pool.specs.Slots.{IsLive, spare_count}
use Rattle.mesh_store.specs.Stored.{Stored}
use Rattle.mesh_model.specs.declared.records.CornerRec.{CornerRec}
use Rattle.mesh_records.specs.Faces.{corner_put, PutsCorners, no_side}
use Rattle.mesh_records.specs.Puts.{row_like}
use Rattle.mesh_records.proofs.Elements.{name_live}
use Rattle.mesh_records.proofs.Examples.{if_some_at}
use Rattle.mesh_records.proofs.Faces.{face_filled, begins_a_face, one_corner, adds_a_face, given_more, given_long}
use Rattle.mesh_records.specs.Corners.{of_corners}
use Rattle.mesh_records.specs.Places.{KeepsPlaces}
use Rattle.mesh_records.specs.Room.{of_face}
use Rattle.mesh_records.proofs.Places.{keeps_then, keeps_face, keeps_loop}
use Rattle.mesh_records.proofs.putting.put_face.Goals as goal

pub loop-corner-init : goal.loop-corner-init
loop-corner-init c =
    let room = c.requires.room in
    let limit = c.requires.limit in
    let L = λ (s : Slot). IsLive c.args.st.now.faces.cells s.0 in
    let vacant = c.add_face-face.ensures.vacant in
    record {
      puts = begins_a_face c.args.st.now c.args.next c.add_face-face.result c.args.like c.requires.whole limit
          (let r = room.face_names in omega arith) vacant.0 vacant.1 c.fill_row.new.st
          (if_some_at L c.args.like c.requires.like)
          (face_filled c.args.st.now c.add_face-face.new.self c.fill_row.new.st c.args.next.faces
          c.add_face-face.result c.args.like c.add_face-face.ensures.adds c.fill_row.ensures)
          (ap (λ (t : Stored). spare_count t.faces.cells + 1) c.fill_row.ensures ∙ c.add_face-face.ensures.spare);
      places = keeps_face c.args.st.now c.add_face-face.new.self c.fill_row.new.st c.args.next.faces
          c.add_face-face.result
          (λ (t : LayerTable). with_row t c.add_face-face.result.0 (row_like t c.args.like))
          c.add_face-face.ensures.adds c.add_face-face.ensures.spare c.fill_row.ensures;
    }

pub slot_of_vert-v-requires : goal.slot_of_vert-v-requires
slot_of_vert-v-requires c =
    let i = c.loop-corner.corner-index in
    let k = (slice_index_or c.args.corners.now i no_side).0.0 in
    ap (λ (o : Option Slot). is_some o) (c.loop-corner.invariant.puts.vert_names k)
    ∙ c.requires.verts i no_side (omega arith)

pub slot_of_edge-e-requires : goal.slot_of_edge-e-requires
slot_of_edge-e-requires c =
    let i = c.loop-corner.corner-index in
    let k = (slice_index_or c.args.corners.now i no_side).1.0 in
    ap (λ (o : Option Slot). is_some o) (c.loop-corner.invariant.puts.edge_names k)
    ∙ c.requires.edges i no_side (omega arith)

pub put_loop-requires-clause-cycles : goal.put_loop-requires-clause-cycles
put_loop-requires-clause-cycles c = c.loop-corner.invariant.puts.nearly.cycles

pub put_loop-requires-clause-edge : goal.put_loop-requires-clause-edge
put_loop-requires-clause-edge c = name_live c.loop-corner.invariant.puts.nearly.records.named.edges _ c.slot_of_edge-e.result
    c.slot_of_edge-e.ensures

pub put_loop-requires-clause-face : goal.put_loop-requires-clause-face
put_loop-requires-clause-face c = name_live c.loop-corner.invariant.puts.nearly.records.named.faces c.args.next.faces
    c.add_face-face.result c.loop-corner.invariant.puts.named

pub put_loop-requires-clause-room : goal.put_loop-requires-clause-room
put_loop-requires-clause-room c =
    let i = c.loop-corner.corner-index in
    let long = given_long c.args.st.now c.args.corners.now i (omega arith) in
    let spare = c.loop-corner.invariant.puts.spare in
    let room = c.requires.room in
    let r = room.corners in
    omega arith

pub loop-corner-preserved : goal.loop-corner-preserved
loop-corner-preserved c =
    let i = c.loop-corner.corner-index in
    let st = c.args.st.now in
    let cs = c.args.corners.now in
    let vals = row_like st.values.faces c.args.like in
    let long = given_long st cs i (omega arith) in
    let few = c.requires.few in
    let one = one_corner st c.loop-corner.st c.put_loop.new.st c.args.next c.add_face-face.result
    c.slot_of_vert-v.result c.slot_of_edge-e.result c.put_loop.result
    (map (corner_put st) (take i cs)) vals (slice_index_or cs i no_side) c.loop-corner.invariant.puts c.put_loop.ensures
    c.slot_of_vert-v.ensures c.slot_of_edge-e.ensures (omega arith) in
    let P = λ (ks : List CornerRec). PutsCorners st c.put_loop.new.st c.args.next c.add_face-face.result ks vals in
    record {
      puts = subst P (sym (given_more st cs i (omega arith))) one;
      places = keeps_then (of_face i) (of_corners 1) (of_face (i + 1)) st c.loop-corner.st c.put_loop.new.st
          (record { verts = omega arith; edges = omega arith; corners = omega arith; faces = omega arith })
          c.loop-corner.invariant.places
          (keeps_loop c.loop-corner.st c.put_loop.new.st c.add_face-face.result c.slot_of_vert-v.result
          c.slot_of_edge-e.result c.put_loop.result c.put_loop.ensures);
    }

pub returns-clause-adds : goal.returns-clause-adds
returns-clause-adds c =
    let st = c.args.st.now in
    let cs = c.args.corners.now in
    let i = c.loop-corner.corner-index in
    let vals = row_like st.values.faces c.args.like in
    let full : map (corner_put st) (take i cs) ≡ map (corner_put st) cs =
    ap (map (corner_put st)) (take_all i cs (omega arith)) in
    let P = λ (ks : List CornerRec). PutsCorners st c.loop-corner.st c.args.next c.add_face-face.result ks vals in
    let some = c.requires.some in
    let long : length (map (corner_put st) cs) ≡ length cs = length-map cs (corner_put st) in
    adds_a_face st c.loop-corner.st c.args.next c.add_face-face.result (map (corner_put st) cs) vals c.requires.whole
    (subst P full c.loop-corner.invariant.puts) (omega arith)

pub returns-clause-places : goal.returns-clause-places
returns-clause-places c =
    let all : c.loop-corner.corner-index ≡ length c.args.corners.now = omega arith in
    let K = λ (j : ℕ). KeepsPlaces (of_face j) c.args.st.now c.loop-corner.st in
    subst K all c.loop-corner.invariant.places

use Rattle.std.proofs.Common.{◌≡◌, ◌+◌, ◌++◌, ℕ, ℤ, is_some, List, [], ◌∷◌, Option, length, take, refl, sym, ap, ◌∙◌, subst, arith}
use Rattle.std.proofs.lemmas.List.{take_all, take_more}
use Rattle.raw_pool.specs.declared.pool.Slot.{Slot}
use Rattle.mesh_store.specs.Slots.{at}
use Rattle.mesh_model.specs.Complex.{KindLayers}
use Rattle.mesh_model.specs.declared.records.CornerRec.{CornerRec}
use Rattle.cust_data.specs.Layers.{total}
use Rattle.mesh_records.specs.Corners.{AppendsCorners, of_corners}
use Rattle.mesh_records.specs.Places.{KeepsPlaces}
use Rattle.mesh_records.specs.Puts.{PutsCorner}
use Rattle.mesh_records.proofs.Appended.{appends_none, appends_one}
use Rattle.mesh_records.proofs.Elements.{name_live}
use Rattle.mesh_records.proofs.Places.{keeps_same, keeps_then, keeps_corner}
use Rattle.mesh_records.proofs.putting.put_corners.Goals as goal

pub slot_of_face-face-requires : goal.slot_of_face-face-requires
slot_of_face-face-requires c = c.requires.there

pub loop-corner-init : goal.loop-corner-init
loop-corner-init c = record {
  appends = appends_none c.args.st.now c.args.next c.args.f c.requires.whole;
  places = keeps_same c.args.st.now c.args.st.now refl;
}

pub slot_of_vert-v-requires : goal.slot_of_vert-v-requires
slot_of_vert-v-requires c =
    let i = c.loop-corner.corner-index in
    let d = c.corner-item.result in
    ap (λ (o : Option Slot). is_some o) (c.loop-corner.invariant.appends.vert_names d.vert.0)
    ∙ ap (λ (x : CornerRec). is_some (at c.args.st.now.verts.names x.vert.0)) c.corner-item.is
    ∙ c.requires.verts i d (omega arith)

pub slot_of_edge-e-requires : goal.slot_of_edge-e-requires
slot_of_edge-e-requires c =
    let i = c.loop-corner.corner-index in
    let d = c.corner-item.result in
    ap (λ (o : Option Slot). is_some o) (c.loop-corner.invariant.appends.edge_names d.edge.0)
    ∙ ap (λ (x : CornerRec). is_some (at c.args.st.now.edges.names x.edge.0)) c.corner-item.is
    ∙ c.requires.edges i d (omega arith)

pub put_corner-requires-clause-cycles : goal.put_corner-requires-clause-cycles
put_corner-requires-clause-cycles c = c.loop-corner.invariant.appends.whole.nearly.cycles

pub put_corner-requires-clause-edge : goal.put_corner-requires-clause-edge
put_corner-requires-clause-edge c = name_live c.loop-corner.invariant.appends.whole.nearly.records.named.edges _
    c.slot_of_edge-e.result c.slot_of_edge-e.ensures

pub put_corner-requires-clause-face : goal.put_corner-requires-clause-face
put_corner-requires-clause-face c = name_live c.loop-corner.invariant.appends.whole.nearly.records.named.faces c.args.f.0
    c.slot_of_face-face.result (c.loop-corner.invariant.appends.face_names c.args.f.0 ∙ c.slot_of_face-face.ensures)

pub put_corner-requires-clause-room : goal.put_corner-requires-clause-room
put_corner-requires-clause-room c =
    let spare = c.loop-corner.invariant.appends.spare in
    let room = c.requires.room in
    omega arith

pub put_corner-requires-clause-wide : goal.put_corner-requires-clause-wide
put_corner-requires-clause-wide c =
    let i = c.loop-corner.corner-index in
    let d = c.corner-item.result in
    ap (λ (xs : List ℤ). length xs) c.as_slice.ensures ∙ ap (λ (x : CornerRec). length x.vals) c.corner-item.is
    ∙ c.requires.wide i d (omega arith)
    ∙ sym (ap (λ (ls : KindLayers). total ls.corners) c.loop-corner.invariant.appends.layers)

pub loop-corner-preserved : goal.loop-corner-preserved
loop-corner-preserved c =
    let i = c.loop-corner.corner-index in
    let cs = c.args.corners.now in
    let few = c.requires.few in
    let d = c.corner-item.result in
    let p = c.put_corner.ensures in
    let more = take_more cs i d (omega arith) ∙ ap (λ (x : CornerRec). take i cs ++ x ∷ []) (sym c.corner-item.is) in
    let wide = ap (λ (x : CornerRec). length x.vals) c.corner-item.is ∙ c.requires.wide i d (omega arith) in
    let R = λ (row : List ℤ). PutsCorner c.loop-corner.st c.put_corner.new.st c.slot_of_face-face.result
    c.slot_of_vert-v.result c.slot_of_edge-e.result row c.put_corner.result in
    record {
      appends = appends_one c.args.st.now c.loop-corner.st c.put_corner.new.st c.args.next c.args.f
          c.slot_of_face-face.result c.slot_of_vert-v.result c.slot_of_edge-e.result c.put_corner.result cs i d more
          c.loop-corner.invariant.appends c.slot_of_face-face.ensures (omega arith) c.slot_of_vert-v.ensures
          c.slot_of_edge-e.ensures wide (subst R c.as_slice.ensures p);
      places = keeps_then (of_corners i) (of_corners 1) (of_corners (i + 1)) c.args.st.now c.loop-corner.st
          c.put_corner.new.st
          (record { verts = omega arith; edges = omega arith; corners = omega arith; faces = omega arith })
          c.loop-corner.invariant.places
          (keeps_corner c.loop-corner.st c.put_corner.new.st c.slot_of_face-face.result c.slot_of_vert-v.result
          c.slot_of_edge-e.result _ c.put_corner.result p);
    }

pub returns-clause-appends : goal.returns-clause-appends
returns-clause-appends c =
    let st = c.args.st.now in
    let cs = c.args.corners.now in
    let i = c.loop-corner.corner-index in
    let full = take_all i cs (omega arith) in
    let P = λ (ks : List CornerRec). AppendsCorners st c.loop-corner.st c.args.next c.args.f ks i in
    let Q = λ (j : ℕ). AppendsCorners st c.loop-corner.st c.args.next c.args.f cs j in
    let all : i ≡ length cs = omega arith in
    subst Q all (subst P full c.loop-corner.invariant.appends)

pub returns-clause-places : goal.returns-clause-places
returns-clause-places c =
    let all : c.loop-corner.corner-index ≡ length c.args.corners.now = omega arith in
    let K = λ (j : ℕ). KeepsPlaces (of_corners j) c.args.st.now c.loop-corner.st in
    subst K all c.loop-corner.invariant.places

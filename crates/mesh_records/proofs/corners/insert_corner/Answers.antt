use Rattle.std.proofs.Common.{is_some, Option, List, [], ◌∷◌, ◌++◌, length, sym, ap, ◌∙◌, arith}
use Rattle.std.proofs.lemmas.List.{length-append}
use Rattle.cust_data.specs.Layers.{total}
use Rattle.raw_pool.specs.declared.pool.Slot.{Slot}
use Rattle.mesh_store.specs.declared.layers.Layers.{Layers}
use Rattle.mesh_model.specs.Complex.{corners_of}
use Rattle.mesh_model.specs.declared.records.CornerRec.{CornerRec}
use Rattle.mesh_records.specs.Changes.{turned}
use Rattle.mesh_records.specs.ReadOff.{face_at}
use Rattle.mesh_records.proofs.CornerChanges.{turned_long}
use Rattle.mesh_records.proofs.Elements.{name_live}
use Rattle.mesh_records.proofs.Inserts.{inserts_corner}
use Rattle.mesh_records.proofs.LoopCounts.{loops_many, len_loops, corners_by}
use Rattle.mesh_records.specs.Corners.{of_corners}
use Rattle.mesh_records.specs.Room.{none_of_all}
use Rattle.mesh_records.proofs.Places.{keeps_then, none_more, none_first}
use Rattle.mesh_records.proofs.corners.insert_corner.Goals as goal

pub face_len-count-requires : goal.face_len-count-requires
face_len-count-requires c = name_live c.requires.whole.records.named.faces c.args.f.0 c.slot_of_face-face.result
    c.slot_of_face-face.ensures

pub append_corner-requires-clause-there : goal.append_corner-requires-clause-there
append_corner-requires-clause-there c = ap (λ (o : Option Slot). is_some o)
    (c.turn_corners.ensures.keeps.face_names c.args.f.0) ∙ c.requires.there

pub append_corner-requires-clause-vert : goal.append_corner-requires-clause-vert
append_corner-requires-clause-vert c = ap (λ (o : Option Slot). is_some o)
    (c.turn_corners.ensures.keeps.vert_names c.args.corner.now.vert.0) ∙ c.requires.vert

pub append_corner-requires-clause-edge : goal.append_corner-requires-clause-edge
append_corner-requires-clause-edge c = ap (λ (o : Option Slot). is_some o)
    (c.turn_corners.ensures.keeps.edge_names c.args.corner.now.edge.0) ∙ c.requires.edge

pub append_corner-requires-clause-wide : goal.append_corner-requires-clause-wide
append_corner-requires-clause-wide c = c.requires.wide
    ∙ sym (ap (λ (v : Layers). total v.loops.layers) c.turn_corners.ensures.keeps.values)

pub overflow_sub-count : goal.overflow_sub-count
overflow_sub-count c =
    let len = len_loops c.args.st.now c.args.next c.requires.whole c.args.f.0 c.slot_of_face-face.result
    c.slot_of_face-face.ensures c.face_len-count.result c.face_len-count.ensures.len in
    let many = loops_many c.args.st.now c.args.next c.requires.whole c.args.f.0 c.slot_of_face-face.result
    c.slot_of_face-face.ensures in
    let within = c.requires.within in
    omega arith

pub turn_corners-requires-2-clause-there : goal.turn_corners-requires-2-clause-there
turn_corners-requires-2-clause-there c = ap (λ (o : Option Slot). is_some o)
    (c.append_corner.ensures.appends.face_names c.args.f.0 ∙ c.turn_corners.ensures.keeps.face_names c.args.f.0)
    ∙ c.requires.there

pub turn_corners-requires-2-clause-within : goal.turn_corners-requires-2-clause-within
turn_corners-requires-2-clause-within c =
    let f = c.args.f.0 in
    let n = c.args.next in
    let st = c.args.st.now in
    let w = c.requires.whole in
    let len = len_loops st n w f c.slot_of_face-face.result c.slot_of_face-face.ensures c.face_len-count.result
    c.face_len-count.ensures.len in
    let many = loops_many st n w f c.slot_of_face-face.result c.slot_of_face-face.ensures in
    let t = c.turn_corners.ensures.turns in
    let one = corners_by st c.turn_corners.new.st n n w.records t.whole.records c.args.f (turned c.args.i) t.read c.requires.there in
    let a = c.append_corner.ensures.appends in
    let there = ap (λ (o : Option Slot). is_some o) (c.turn_corners.ensures.keeps.face_names f) ∙ c.requires.there in
    let two = corners_by c.turn_corners.new.st c.append_corner.new.st n _ t.whole.records a.whole.records c.args.f
    (λ (ks : List CornerRec). ks ++ c.args.corner.now ∷ []) a.read there in
    let first = ap (λ (cs : List CornerRec). length cs) one in
    let second = ap (λ (cs : List CornerRec). length cs) two in
    let turns = turned_long (corners_of (face_at st f)) c.args.i in
    let more = length-append (corners_of (face_at c.turn_corners.new.st f)) (c.args.corner.now ∷ []) in
    omega arith

pub returns-clause-inserts : goal.returns-clause-inserts
returns-clause-inserts c =
    let f = c.args.f.0 in
    let n = c.args.next in
    let st = c.args.st.now in
    let w = c.requires.whole in
    let len = len_loops st n w f c.slot_of_face-face.result c.slot_of_face-face.ensures c.face_len-count.result
    c.face_len-count.ensures.len in
    let many = loops_many st n w f c.slot_of_face-face.result c.slot_of_face-face.ensures in
    inserts_corner st c.turn_corners.new.st c.append_corner.new.st c.turn_corners-2.new.st n w c.args.f c.args.i
    c.args.corner.now c.face_len-count.result (omega arith) c.requires.within c.turn_corners.ensures.turns
    c.append_corner.ensures.appends c.turn_corners-2.ensures.turns

pub returns-clause-places : goal.returns-clause-places
returns-clause-places c =
    let st = c.args.st.now in
    let one = of_corners 1 in
    keeps_then one none_of_all one st c.append_corner.new.st c.turn_corners-2.new.st (none_more one)
    (keeps_then none_of_all one one st c.turn_corners.new.st c.append_corner.new.st (none_first one)
    c.turn_corners.ensures.places c.append_corner.ensures.places) c.turn_corners-2.ensures.places

use Rattle.std.proofs.Common.{refl, arith}
use Rattle.mesh_records.proofs.CornersLost.{placed}
use Rattle.mesh_records.proofs.Elements.{name_live}
use Rattle.mesh_records.proofs.LoopCounts.{loops_many, len_loops}
use Rattle.mesh_records.proofs.Reordered.{keeps_bare}
use Rattle.mesh_records.proofs.Turned.{turns_corners, turns_none}
use Rattle.mesh_records.proofs.Places.{keeps_same, keeps_bare_places}
use Rattle.mesh_records.proofs.corners.turn_corners.Goals as goal

pub face_len-requires : goal.face_len-requires
face_len-requires c = name_live c.requires.whole.records.named.faces c.args.f.0 c.slot_of_face-face.result
    c.slot_of_face-face.ensures

pub loop_at-corner-requires-clause-within : goal.loop_at-corner-requires-clause-within
loop_at-corner-requires-clause-within c =
    let len = len_loops c.args.st.now c.args.next c.requires.whole c.args.f.0 c.slot_of_face-face.result
    c.slot_of_face-face.ensures c.face_len.result c.face_len.ensures.len in
    omega arith

pub loop_turn-requires-clause-member : goal.loop_turn-requires-clause-member
loop_turn-requires-clause-member c = placed c.args.st.now c.slot_of_face-face.result c.loop_at-corner.result c.args.i
    c.loop_at-corner.ensures

pub returns-then-i-face_len-clause-turns : goal.returns-then-i-face_len-clause-turns
returns-then-i-face_len-clause-turns c = turns_corners c.args.st.now c.loop_turn.new.st c.args.next c.requires.whole c.args.f
    c.slot_of_face-face.result c.loop_at-corner.result c.args.i c.slot_of_face-face.ensures c.loop_at-corner.ensures
    c.loop_turn.ensures

pub returns-else-i-face_len-clause-turns : goal.returns-else-i-face_len-clause-turns
returns-else-i-face_len-clause-turns c =
    let len = len_loops c.args.st.now c.args.next c.requires.whole c.args.f.0 c.slot_of_face-face.result
    c.slot_of_face-face.ensures c.face_len.result c.face_len.ensures.len in
    let many = loops_many c.args.st.now c.args.next c.requires.whole c.args.f.0 c.slot_of_face-face.result
    c.slot_of_face-face.ensures in
    let within = c.requires.within in
    turns_none c.args.st.now c.args.next c.requires.whole c.args.f c.args.i (omega arith)

pub returns-then-i-face_len-clause-keeps : goal.returns-then-i-face_len-clause-keeps
returns-then-i-face_len-clause-keeps c = keeps_bare c.args.st.now c.loop_turn.new.st c.loop_turn.ensures.stays

pub returns-then-i-face_len-clause-places : goal.returns-then-i-face_len-clause-places
returns-then-i-face_len-clause-places c = keeps_bare_places c.args.st.now c.loop_turn.new.st c.loop_turn.ensures.stays

pub returns-else-i-face_len-clause-places : goal.returns-else-i-face_len-clause-places
returns-else-i-face_len-clause-places c = keeps_same c.args.st.now c.args.st.now refl

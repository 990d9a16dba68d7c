use Rattle.mesh_records.proofs.Owners.{loop_face}
use Rattle.mesh_core.proofs.Places.{place_is}
use Rattle.mesh_core.proofs.corners.place_of.Goals as goal

pub face_number-requires : goal.face_number-requires
face_number-requires c = loop_face c.args.st.now c.requires.whole.1.records.linked c.args.l c.loop_face-f.result
    c.loop_face-f.ensures

pub place_in-requires-clause-cycles : goal.place_in-requires-clause-cycles
place_in-requires-clause-cycles c = c.requires.whole.1.cycles.cycles

pub place_in-requires-clause-live : goal.place_in-requires-clause-live
place_in-requires-clause-live c = loop_face c.args.st.now c.requires.whole.1.records.linked c.args.l
    c.loop_face-f.result c.loop_face-f.ensures

pub returns : goal.returns
returns c = place_is c.args.st.now c.args.l c.loop_face-f.result c.face_number.result c.place_in.result
    c.loop_face-f.ensures c.face_number.ensures c.place_in.ensures

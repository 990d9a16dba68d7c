use Rattle.mesh_cycles.proofs.Completeness.{live_len}
use Rattle.mesh_records.proofs.Elements.{name_live}
use Rattle.mesh_records.proofs.Reversals.{turns_over}
use Rattle.mesh_records.proofs.Places.{keeps_bare_places}
use Rattle.mesh_records.proofs.corners.reverse_loops.Goals as goal

pub loop_reverse-requires-clause-live : goal.loop_reverse-requires-clause-live
loop_reverse-requires-clause-live c = name_live c.requires.whole.records.named.faces c.args.f.0
    c.slot_of_face-face.result c.slot_of_face-face.ensures

pub loop_reverse-requires-clause-counted : goal.loop_reverse-requires-clause-counted
loop_reverse-requires-clause-counted c = live_len c.args.st.now c.slot_of_face-face.result.0
    c.requires.whole.cycles.counted (name_live c.requires.whole.records.named.faces c.args.f.0
    c.slot_of_face-face.result c.slot_of_face-face.ensures)

pub returns-clause-rewrites : goal.returns-clause-rewrites
returns-clause-rewrites c = turns_over c.args.st.now c.loop_reverse.new.st c.args.next c.requires.whole c.args.f
    c.slot_of_face-face.result c.slot_of_face-face.ensures c.loop_reverse.ensures

pub returns-clause-places : goal.returns-clause-places
returns-clause-places c = keeps_bare_places c.args.st.now c.loop_reverse.new.st c.loop_reverse.ensures.stays

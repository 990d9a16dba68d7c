use Rattle.std.proofs.Common.{◌+◌, ap, ◌∙◌}
use Rattle.raw_pool.specs.Slots.{spare_count}
use Rattle.mesh_store.specs.Stored.{Stored}
use Rattle.mesh_records.proofs.LoopJoins.{loop_cleared, given, one_counted, one_face_of, one_apart, puts_loop}
use Rattle.mesh_records.proofs.putting.put_loop.Goals as goal

pub radial_add-requires-clause-cycles : goal.radial_add-requires-clause-cycles
radial_add-requires-clause-cycles c = (given c.args.st.now c.clear_row.new.self c.args.f c.args.v c.args.e
    c.add_loop-corner.result c.requires.cycles c.add_loop-corner.ensures.vacant
    (loop_cleared c.args.st.now c.add_loop-corner.new.self c.clear_row.new.self c.args.v c.args.e c.args.f
    c.add_loop-corner.result c.add_loop-corner.ensures.adds c.clear_row.ensures)).same.cycles

pub radial_add-requires-clause-apart : goal.radial_add-requires-clause-apart
radial_add-requires-clause-apart c = (given c.args.st.now c.clear_row.new.self c.args.f c.args.v c.args.e
    c.add_loop-corner.result c.requires.cycles c.add_loop-corner.ensures.vacant
    (loop_cleared c.args.st.now c.add_loop-corner.new.self c.clear_row.new.self c.args.v c.args.e c.args.f
    c.add_loop-corner.result c.add_loop-corner.ensures.adds c.clear_row.ensures)).no_radial

pub loop_append-requires-clause-counted : goal.loop_append-requires-clause-counted
loop_append-requires-clause-counted c =
    one_counted c.args.st.now c.clear_row.new.self c.args.f c.args.v c.args.e c.add_loop-corner.result c.requires.cycles
    c.add_loop-corner.ensures.vacant (loop_cleared c.args.st.now c.add_loop-corner.new.self c.clear_row.new.self
    c.args.v c.args.e c.args.f c.add_loop-corner.result c.add_loop-corner.ensures.adds c.clear_row.ensures)
    c.radial_add.new.st c.radial_add.ensures c.requires.face

pub loop_append-requires-clause-face : goal.loop_append-requires-clause-face
loop_append-requires-clause-face c = one_face_of c.args.st.now c.clear_row.new.self c.args.f c.args.v c.args.e
    c.add_loop-corner.result c.requires.cycles c.add_loop-corner.ensures.vacant
    (loop_cleared c.args.st.now c.add_loop-corner.new.self c.clear_row.new.self c.args.v c.args.e c.args.f
    c.add_loop-corner.result c.add_loop-corner.ensures.adds c.clear_row.ensures) c.radial_add.new.st
    c.radial_add.ensures

pub loop_append-requires-clause-apart : goal.loop_append-requires-clause-apart
loop_append-requires-clause-apart c = one_apart c.args.st.now c.clear_row.new.self c.args.f c.args.v c.args.e
    c.add_loop-corner.result c.requires.cycles c.add_loop-corner.ensures.vacant
    (loop_cleared c.args.st.now c.add_loop-corner.new.self c.clear_row.new.self c.args.v c.args.e c.args.f
    c.add_loop-corner.result c.add_loop-corner.ensures.adds c.clear_row.ensures) c.radial_add.new.st
    c.radial_add.ensures

pub returns : goal.returns
returns c = puts_loop c.args.st.now c.clear_row.new.self c.args.f c.args.v c.args.e c.add_loop-corner.result
    c.requires.cycles c.add_loop-corner.ensures.vacant (loop_cleared c.args.st.now c.add_loop-corner.new.self
    c.clear_row.new.self c.args.v c.args.e c.args.f c.add_loop-corner.result c.add_loop-corner.ensures.adds
    c.clear_row.ensures) c.radial_add.new.st c.radial_add.ensures c.loop_append.new.st c.loop_append.ensures
    (ap (λ (t : Stored). spare_count t.loops + 1) c.clear_row.ensures ∙ c.add_loop-corner.ensures.spare)

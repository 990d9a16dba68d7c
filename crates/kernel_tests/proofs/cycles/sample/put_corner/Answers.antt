use Rattle.mesh_cycles.proofs.Completeness.{live_len}
use Rattle.kernel_tests.proofs.cycles.sample.put_corner.Goals as goal

pub loop_append-requires-clause-counted : goal.loop_append-requires-clause-counted
loop_append-requires-clause-counted c = live_len c.args.st.now c.args.face.0 c.requires.sound.counted c.requires.live

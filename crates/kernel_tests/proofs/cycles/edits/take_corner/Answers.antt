use Rattle.mesh_cycles.proofs.Completeness.{live_len}
use Rattle.kernel_tests.proofs.Sound.{sound_round}
use Rattle.kernel_tests.proofs.cycles.edits.take_corner.Goals as goal

pub loop_remove_counted-requires-clause-counted : goal.loop_remove_counted-requires-clause-counted
loop_remove_counted-requires-clause-counted g c =
    live_len c.args.st.now c.face-face.result.0 c.requires.counted c.face-face.ensures

pub returns : goal.returns
returns g c = sound_round c.loop_remove_counted.ensures.edits c.requires

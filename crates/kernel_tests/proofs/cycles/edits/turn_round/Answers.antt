use Rattle.mesh_cycles.proofs.Completeness.{live_len}
use Rattle.kernel_tests.proofs.Sound.{sound_round}
use Rattle.kernel_tests.proofs.cycles.edits.turn_round.Goals as goal

pub loop_reverse-requires-clause-counted : goal.loop_reverse-requires-clause-counted
loop_reverse-requires-clause-counted g c =
    live_len c.args.st.now c.face-face.result.0 c.requires.counted c.face-face.ensures

pub returns : goal.returns
returns g c = sound_round c.loop_reverse.ensures c.requires

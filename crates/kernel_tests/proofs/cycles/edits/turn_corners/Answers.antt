use Rattle.link_ring.proofs.Reading.{reads_at}
use Rattle.mesh_cycles.proofs.Completeness.{live_len, second_in}
use Rattle.kernel_tests.proofs.Sound.{sound_round}
use Rattle.kernel_tests.proofs.cycles.edits.turn_corners.Goals as goal

pub loop_turn-requires-clause-counted : goal.loop_turn-requires-clause-counted
loop_turn-requires-clause-counted g c =
    live_len c.args.st.now c.face-face.result.0 c.requires.counted c.face-face.ensures

pub loop_turn-requires-clause-member : goal.loop_turn-requires-clause-member
loop_turn-requires-clause-member g c = second_in (reads_at (c.requires.cycles.rounds c.face-face.result.0)
    c.some_round-first.ensures.first) c.next-second.ensures

pub returns : goal.returns
returns g c = sound_round c.loop_turn.ensures c.requires

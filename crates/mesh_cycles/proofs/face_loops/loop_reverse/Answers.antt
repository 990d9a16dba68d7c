use Rattle.mesh_cycles.proofs.Reverses.{round_reversed}
use Rattle.mesh_cycles.proofs.face_loops.loop_reverse.Goals as goal

pub returns-in-Some : goal.returns-in-Some
returns-in-Some c =
    round_reversed c.args.st.now c.reverse.new.links c.args.f.0 c.in-Some.first c.requires.cycles c.requires.counted
    c.in-Some.ensures.first c.reverse.ensures.ring c.reverse.ensures.others c.reverse.ensures.rest

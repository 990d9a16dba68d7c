use Rattle.mesh_cycles.proofs.Turns.{loop_turned}
use Rattle.mesh_cycles.proofs.face_loops.loop_turn.Goals as goal

pub returns : goal.returns
returns c = loop_turned c.args.st.now c.set_face_loop.new.self c.args.f c.args.l c.requires.cycles c.requires.live
    c.requires.member c.requires.counted c.set_face_loop.ensures

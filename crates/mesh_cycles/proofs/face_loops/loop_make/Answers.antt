use Rattle.std.proofs.Common.{Some}
use Rattle.mesh_cycles.proofs.Rounds.{writes_both}
use Rattle.mesh_cycles.proofs.LoopCalls.{loop_made}
use Rattle.mesh_cycles.proofs.face_loops.loop_make.Goals as goal

pub returns : goal.returns
returns c =
    let written = writes_both c.args.f.0 (Some c.args.l) 1 c.start_ring.ensures.rest c.set_first_round.ensures
    c.set_face_len.ensures in
    loop_made c.args.st.now c.start_ring.new.links c.set_face_len.new.self c.args.f.0 (record { 0 = c.args.l })
    c.requires.cycles c.requires.live c.requires.face
    c.start_ring.ensures.ring c.start_ring.ensures.others written

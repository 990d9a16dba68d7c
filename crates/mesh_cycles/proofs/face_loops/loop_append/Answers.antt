use Rattle.std.proofs.Common.{◌≡◌, ◌+◌, length, sym, ◌∙◌, arith}
use Rattle.std.proofs.lemmas.Option.{same_Some}
use Rattle.mesh_cycles.specs.Cycles.{round_of}
use Rattle.mesh_cycles.proofs.Rounds.{writes_both}
use Rattle.mesh_cycles.proofs.LoopCalls.{slot_in, one_more, loop_appended}
use Rattle.mesh_cycles.proofs.face_loops.loop_append.Goals as goal

pub overflow_add-len : goal.overflow_add-len
overflow_add-len c =
    let was : c.face_len-len.result ≡ length (round_of c.args.st.now c.args.f.0) =
    same_Some _ _ (sym c.face_len-len.ensures.len ∙ c.requires.counted) in
    let more = one_more c.args.st.now c.args.f.0 c.args.l c.requires.cycles c.requires.apart c.requires.face in
    let few = c.face_len-len.ensures.few in
    omega arith

pub returns : goal.returns
returns c =
    let written = writes_both c.args.f.0 (slot_in c.push_last-head.result) (c.face_len-len.result + 1)
    c.push_last-head.ensures.rest c.set_first_round.ensures c.set_face_len.ensures in
    loop_appended c.args.st.now c.push_last-head.new.links c.set_face_len.new.self c.args.f.0 (record { 0 = c.args.l })
    c.face_len-len.result c.requires.cycles c.requires.live c.requires.face
    c.requires.counted c.face_len-len.ensures.len c.first_round-first.ensures.first c.push_last-head.ensures.reads
    c.push_last-head.ensures.others written

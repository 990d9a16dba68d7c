use Rattle.std.proofs.Common.{◌-◌, sym, ap, ◌∙◌}
use Rattle.mesh_store.specs.Stored.{Stored}
use Rattle.mesh_cycles.specs.Owners.{len_of}
use Rattle.mesh_cycles.proofs.Rounds.{writes_both}
use Rattle.mesh_cycles.proofs.LoopCalls.{slot_in, loop_removed}
use Rattle.mesh_cycles.proofs.face_loops.loop_remove_counted.Goals as goal

pub returns : goal.returns
returns c =
    let len = sym (ap (λ (t : Stored). len_of t c.args.f.0) c.take_member-head.ensures.rest)
    ∙ c.face_len-len.ensures.len in
    let written = writes_both c.args.f.0 (slot_in c.take_member-head.result) (c.face_len-len.result - 1)
    c.take_member-head.ensures.rest c.set_first_round.ensures c.set_face_len.ensures in
    let removed = loop_removed c.args.st.now c.take_member-head.new.links c.set_face_len.new.self c.args.f.0
    (record { 0 = c.args.l }) c.face_len-len.result c.requires.cycles c.requires.live c.requires.member
    c.requires.counted len c.first_round-first.ensures.first c.take_member-head.ensures.reads
    c.take_member-head.ensures.others written in
    record { edits = removed.0; out = removed.1 }

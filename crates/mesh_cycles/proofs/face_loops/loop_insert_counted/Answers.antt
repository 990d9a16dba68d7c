use Rattle.std.proofs.Common.{◌≡◌, length, refl, sym, ◌∙◌, arith}
use Rattle.std.proofs.lemmas.Option.{same_Some}
use Rattle.link_ring.proofs.Reading.{member_without}
use Rattle.mesh_cycles.specs.Cycles.{round_of}
use Rattle.mesh_cycles.proofs.LoopCalls.{named_face, face_live, one_more, loop_inserted}
use Rattle.mesh_cycles.proofs.face_loops.loop_insert_counted.Goals as goal

pub face_len-len-requires : goal.face_len-len-requires
face_len-len-requires c =
    let f = c.loop_face-face.result.0 in
    let a = named_face c.args.st.now c.args.after c.loop_face-face.result c.requires.cycles c.requires.member
    c.loop_face-face.ensures in
    face_live c.args.st.now f (record { 0 = c.args.after }) a.member

pub insert_after-requires-clause-apart : goal.insert_after-requires-clause-apart
insert_after-requires-clause-apart c =
    let f = c.loop_face-face.result.0 in
    let a = named_face c.args.st.now c.args.after c.loop_face-face.result c.requires.cycles c.requires.member
    c.loop_face-face.ensures in
    member_without (record { 0 = c.args.after }) (record { 0 = c.args.l }) (c.requires.cycles.rounds f) a.member
    (c.requires.apart f)

pub overflow_add-len : goal.overflow_add-len
overflow_add-len c =
    let f = c.loop_face-face.result.0 in
    let a = named_face c.args.st.now c.args.after c.loop_face-face.result c.requires.cycles c.requires.member
    c.loop_face-face.ensures in
    let was : c.face_len-len.result ≡ length (round_of c.args.st.now f) =
    same_Some _ _ (sym c.face_len-len.ensures.len ∙ c.requires.counted f a.face) in
    let more = one_more c.args.st.now f c.args.l c.requires.cycles c.requires.apart (c.requires.same ∙ a.face) in
    let few = c.face_len-len.ensures.few in
    omega arith

pub returns : goal.returns
returns c =
    loop_inserted c.args.st.now c.insert_after.new.links c.set_face_len.new.self (record { 0 = c.args.after })
    (record { 0 = c.args.l }) c.loop_face-face.result c.face_len-len.result
    c.requires.cycles c.requires.member c.requires.counted c.requires.same c.loop_face-face.ensures
    c.face_len-len.ensures.len c.insert_after.ensures.ring c.insert_after.ensures.others
    (record { rest = c.insert_after.ensures.rest; write = c.set_face_len.ensures; covered = λ k. refl })

use Rattle.std.proofs.Common.{◌∷◌, sym, ◌∙◌, subst}
use Rattle.std.proofs.lemmas.Option.{same_Some}
use Rattle.link_ring.proofs.Members.{member_of}
use Rattle.mesh_cycles.specs.Lists.{same_round, with_behind}
use Rattle.mesh_cycles.specs.Cycles.{IsCounted}
use Rattle.mesh_cycles.proofs.LoopCalls.{named_face, face_live}
use Rattle.mesh_cycles.proofs.Counts.{IsRecounted, recounted, edited_through}
use Rattle.mesh_cycles.proofs.face_loops.loop_insert.Goals as goal

pub count_loops-requires-clause-live : goal.count_loops-requires-clause-live
count_loops-requires-clause-live c =
    let a = named_face c.args.st.now c.args.after c.loop_face-face.result c.requires.cycles c.requires.member
    c.loop_face-face.ensures in
    face_live c.args.st.now c.loop_face-face.result.0 (record { 0 = c.args.after }) a.member

pub loop_insert_counted-requires : goal.loop_insert_counted-requires
loop_insert_counted-requires c =
    let st = c.args.st.now in let mid = c.count_loops.new.st in let face = c.loop_face-face.result in
    let a = named_face st c.args.after face c.requires.cycles c.requires.member c.loop_face-face.ensures in
    let r = recounted st mid face c.requires.cycles (face_live st face.0 (record { 0 = c.args.after }) a.member)
    c.count_loops.ensures in
    let P = IsCounted mid in
    record {
      cycles = r.same.cycles;
      member = (face.0, member_of (record { 0 = c.args.after }) a.member (sym (r.same.rounds face.0)));
      counted = λ f is. subst P (same_Some _ _ (sym a.face ∙ sym (r.faces c.args.after) ∙ is)) r.counted;
      same = r.faces c.args.l ∙ c.requires.same ∙ sym (r.faces c.args.after);
      apart = λ f m. c.requires.apart f (member_of (record { 0 = c.args.l }) m (r.same.rounds f));
    }

pub returns : goal.returns
returns c =
    let st = c.args.st.now in let mid = c.count_loops.new.st in let face = c.loop_face-face.result in
    let a = named_face st c.args.after face c.requires.cycles c.requires.member c.loop_face-face.ensures in
    let r = recounted st mid face c.requires.cycles (face_live st face.0 (record { 0 = c.args.after }) a.member)
    c.count_loops.ensures in
    λ f is.
    let of_f = subst (IsRecounted st mid) (same_Some _ _ (sym a.face ∙ is)) r in
    edited_through c.loop_insert_counted.new.st (λ ls. record { 0 = c.args.l } ∷ ls)
    (with_behind same_round (record { 0 = c.args.after }) (record { 0 = c.args.l })) of_f
    (c.loop_insert_counted.ensures f (r.faces c.args.after ∙ is))

use Rattle.std.proofs.Common.{◌≡◌, ◌<◌, ◌++◌, ◌∙◌, [], length, refl, ap, arith}
use Rattle.mesh_model.specs.Table.{at}
use Rattle.obj_writer.specs.Whole.{entry_text}
use Rattle.obj_writer.proofs.FaceTextLemmas.{texts_to, texts_next, last_next, texts_all}
use Rattle.obj_writer.proofs.WritingLemmas.{onto, no_piece}
use Rattle.obj_writer.proofs.face_lines.push_faces.Goals as goal

pub loop-n-init : goal.loop-n-init
loop-n-init g c = record { done = no_piece c.args.out.now.items [] refl; last = refl }

pub loop-n-preserved : goal.loop-n-preserved
loop-n-preserved g c =
    let whole = g.S.Shape.complex c.args.shape.now in
    let faces : c.counters-n-end.result.faces ≡ length whole.faces =
    ap (λ k. k.faces) c.counters-n-end.ensures.counters in
    let here : c.loop-n.n < length whole.faces = omega (arith, c.loop-n-test.true) in
    let so_far = c.loop-n.invariant in
    let mid = texts_to whole c.loop-n.n in
    record {
      done = onto c.args.out.now.items mid c.loop-n.out.items c.push_entry.new.out.items
          (entry_text whole c.loop-n.before (at whole.faces c.loop-n.n)) _ so_far.done c.in_ok-before.ensures.lines
          (texts_next whole c.loop-n.n (at whole.faces c.loop-n.n) mid _ c.loop-n.before here refl refl so_far.last
          refl);
      last = last_next whole c.loop-n.n (at whole.faces c.loop-n.n) c.loop-n.before _ here refl so_far.last
          c.in_ok-before.ensures.numbers;
    }

pub returns : goal.returns
returns g c =
    let whole = g.S.Shape.complex c.args.shape.now in
    let faces : c.counters-n-end.result.faces ≡ length whole.faces =
    ap (λ k. k.faces) c.counters-n-end.ensures.counters in
    c.loop-n.invariant.done
    ∙ ap (λ t. c.args.out.now.items ++ t) (texts_all whole c.loop-n.n (omega (arith, c.loop-n-test.false)))

use Rattle.std.proofs.Common.{arith, sym, ap, ◌∙◌, ◌+◌, ◌<◌, ◌≡◌, ℕ, length}
use Rattle.obj_writer.proofs.WritingLemmas.{indices_more, live_more, live_same}
use Rattle.obj_writer.proofs.ranks.indices_of.Goals as goal
use Rattle.obj_writer.proofs.ranks.indices_of.Goals.{then-has, else-has}

pub loop-n-preserved : goal.loop-n-preserved
loop-n-preserved g c =
    let shape = g.S.Shape.complex c.args.shape.now in
    let before = c.loop-n.invariant in
    let verts : c.counters-n-end.result.verts ≡ length shape.verts =
    ap (λ k. k.verts) c.counters-n-end.ensures.counters in
    let here : c.loop-n.n < length shape.verts = omega (arith, c.loop-n-test.true) in
    record {
      table = indices_more shape c.loop-n.n c.loop-n.before c.loop-n.indices.items c.push.new.self.items before.table
          before.count c.in_ok-push.ensures.items;
      count = elim c.if-has.branch [
        | then-has w ↦ w.before-is ∙ ap (λ (k : ℕ). k + 1) before.count
            ∙ sym (live_more shape.verts c.loop-n.n here (sym c.has.ensures ∙ w.if-has.true))
        | else-has w ↦ w.before-is ∙ before.count
            ∙ sym (live_same shape.verts c.loop-n.n here (sym c.has.ensures ∙ w.if-has.false))
      ];
      few = elim c.if-has.branch [
        | then-has w ↦ omega (arith, w.before-is, before.few)
        | else-has w ↦ omega (
          arith,
          w.before-is,
          before.few,
        )
      ];
    }

use Rattle.std.proofs.Common.{◌∙◌, arith}
use Rattle.op_slots.proofs.Sweeps.{all_found}
use Rattle.op_slots.proofs.resolving.sweep.swept.Goals as goal

pub returns : goal.returns
returns g c =
    c.loop-k.invariant.found
    ∙ all_found (g.S.Shape.complex c.args.shape.now) c.args.kind c.args.spans.now c.loop-k.k c.loop-k.from (omega arith)
    c.loop-k.invariant.passed c.loop-k.invariant.below

use Rattle.std.proofs.Common.{◌+◌, ◌++◌, ◌∷◌, [], ℕ, List, ap, sym, ◌∙◌}
use Rattle.op_basic.proofs.NewNames.{range_more}
use Rattle.op_basic.proofs.facing.numbers_from.Goals as goal

pub loop-i-preserved : goal.loop-i-preserved
loop-i-preserved c = c.in_ok-push.ensures.items
    ∙ ap (λ (ns : List ℕ). ns ++ (c.args.first + c.loop-i.i) ∷ []) c.loop-i.invariant
    ∙ sym (range_more c.args.first c.loop-i.i)

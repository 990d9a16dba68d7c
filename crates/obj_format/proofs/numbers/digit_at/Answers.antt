use Rattle.std.proofs.Common.{◌-◌, ◌∙◌, length, arith, sym, refl}
use Rattle.std.proofs.lemmas.List.{get_or-append_right}
use Rattle.obj_format.specs.Numbers.{padded}
use Rattle.obj_format.proofs.PaddedLemmas.{padded_in, padded_past}
use Rattle.obj_format.proofs.numbers.digit_at.Goals as goal

pub returns-then-k-whole-2 : goal.returns-then-k-whole-2
returns-then-k-whole-2 c =
    sym (get_or-append_right c.args.whole.now (padded c.args.scale c.args.part.now) (length c.args.whole.now) c.args.k 0
    refl (omega arith)
    ∙ padded_in c.args.scale c.args.part.now (c.args.k - length c.args.whole.now) (omega arith) (omega arith))

pub returns-else-k-whole-2 : goal.returns-else-k-whole-2
returns-else-k-whole-2 c =
    sym (get_or-append_right c.args.whole.now (padded c.args.scale c.args.part.now) (length c.args.whole.now) c.args.k 0
    refl (omega arith)
    ∙ padded_past c.args.scale c.args.part.now (c.args.k - length c.args.whole.now) (omega arith) (omega arith))

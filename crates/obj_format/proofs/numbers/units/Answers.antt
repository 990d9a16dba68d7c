use Rattle.std.proofs.Common.{◌≡◌, ◌<◌, ◌+◌, ◌*◌, ◌-◌, ◌++◌, ◌∙◌, length, get_or, take, min, arith, ap, sym}
use Rattle.std.proofs.lemmas.List.{take_all}
use Rattle.text_words.specs.Text.{value}
use Rattle.text_words.proofs.NumberLemmas.{value_more}
use Rattle.obj_format.specs.Numbers.{padded}
use Rattle.obj_format.proofs.PaddedLemmas.{all_digits, all_length, digit_least, capped_more}
use Rattle.obj_format.proofs.numbers.units.Goals as goal

pub overflow_sub-d : goal.overflow_sub-d
overflow_sub-d c =
    let whole = c.args.whole.now in
    let part = c.args.part.now in
    let all = whole ++ padded c.args.scale part in
    let here : c.loop-k.k < length all = omega (arith, all_length c.args.scale whole part, c.loop-k-test.true) in
    rw c.digit_at-d.ensures (digit_least all c.loop-k.k (all_digits c.args.scale whole part c.requires.whole_digits
    c.requires.part_digits) here)

pub loop-k-preserved : goal.loop-k-preserved
loop-k-preserved c =
    let whole = c.args.whole.now in
    let part = c.args.part.now in
    let all = whole ++ padded c.args.scale part in
    let here : c.loop-k.k < length all = omega (arith, all_length c.args.scale whole part, c.loop-k-test.true) in
    let step : min 1000000001 (10 * c.loop-k.n + (get_or all c.loop-k.k 0 - 48))
    ≡ min 1000000001 (value (take (c.loop-k.k + 1) all)) =
    capped_more 1000000001 c.loop-k.n (value (take c.loop-k.k all)) (get_or all c.loop-k.k 0 - 48) c.loop-k.invariant
    ∙ ap (min 1000000001) (sym (value_more all c.loop-k.k here)) in
    c.min-n.ensures ∙ ap (λ d. min 1000000001 (10 * c.loop-k.n + (d - 48))) c.digit_at-d.ensures ∙ step

pub returns : goal.returns
returns c =
    let whole = c.args.whole.now in
    let part = c.args.part.now in
    c.loop-k.invariant ∙ ap (λ ds. min 1000000001 (value ds))
    (take_all c.loop-k.k (whole ++ padded c.args.scale part)
    (omega (arith, all_length c.args.scale whole part, c.loop-k-test.false)))

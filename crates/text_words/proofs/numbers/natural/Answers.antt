use Rattle.std.proofs.Common.{◌≤◌, ◌∙◌, length, arith, sym}
use Rattle.std.proofs.lemmas.Bool.{and_parts, leb-true}
use Rattle.text_words.specs.Text.{is_numeral}
use Rattle.text_words.proofs.NumberLemmas.{power_of_ten_grows}
use Rattle.text_words.proofs.numbers.natural.Goals as goal

pub returns-then-are_digits-clause-below : goal.returns-then-are_digits-clause-below
returns-then-are_digits-clause-below c =
    let ds = c.args.ds.now in
    let few : length ds ≤ c.args.most = leb-true (length ds) c.args.most
    (and_parts _ (is_numeral ds) (sym c.are_digits.ensures ∙ c.if-are_digits.true)).0 in
    omega (arith, c.capped_value.ensures.below, power_of_ten_grows (length ds) c.args.most few)

use Rattle.std.proofs.Common.{◌∙◌}
use Rattle.text_words.specs.Text.{integer}
use Rattle.script_text.proofs.EachLemmas.{at_most-few}
use Rattle.script_text.proofs.values.ints_of.Goals as goal

pub returns : goal.returns
returns c = c.in_ok-numbers.ensures ∙ at_most-few 4 (integer 18) (λ w. w.now) c.args.parts.now c.if-parts-gt4.false

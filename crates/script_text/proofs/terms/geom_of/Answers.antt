use Rattle.std.proofs.Common.{◌∙◌}
use Rattle.script_text.specs.Terms.{term}
use Rattle.script_text.proofs.EachLemmas.{at_most-few}
use Rattle.script_text.proofs.terms.geom_of.Goals as goal

pub returns : goal.returns
returns c = c.in_ok-terms.ensures ∙ at_most-few 4096 term (λ w. w.now) c.args.words.now c.if-words-gt-MOST_TERMS.false

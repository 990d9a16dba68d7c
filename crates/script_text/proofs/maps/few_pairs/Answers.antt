use Rattle.std.proofs.Common.{◌∙◌}
use Rattle.script_text.specs.Maps.{pair}
use Rattle.script_text.proofs.EachLemmas.{at_most-few}
use Rattle.script_text.proofs.maps.few_pairs.Goals as goal

pub returns : goal.returns
returns c = c.in_ok-pairs.ensures ∙ at_most-few 4096 pair (λ w. w.now) c.args.words.now c.if-words-gt-MOST_TERMS.false

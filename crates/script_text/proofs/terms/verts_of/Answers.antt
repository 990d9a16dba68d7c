use Rattle.std.proofs.Common.{◌∙◌}
use Rattle.script_text.specs.Terms.{vert}
use Rattle.script_text.proofs.EachLemmas.{at_most-few}
use Rattle.script_text.proofs.terms.verts_of.Goals as goal

pub returns : goal.returns
returns c = c.in_ok-names.ensures ∙ at_most-few 4096 vert (λ w. w.now) c.args.words.now c.if-words-gt-MOST_TERMS.false

use Rattle.std.proofs.Common.{◌≡◌, drop}
use Rattle.text_words.specs.Each.{each, with_front}
use Rattle.script_text.specs.Terms.{term}
use Rattle.script_text.proofs.terms.each_term.Given as goal

abbrev pub invariant-loop-word : goal.invariant-loop-word
invariant-loop-word l =
    with_front l.terms (each (λ w. term w.now) (drop l.word-index l.words)) ≡ each (λ w. term w.now) l.words

use Rattle.std.proofs.Common.{◌≡◌, drop}
use Rattle.text_words.specs.Each.{each, with_front}
use Rattle.script_text.specs.Terms.{vert}
use Rattle.script_text.proofs.terms.each_vert.Given as goal

abbrev pub invariant-loop-word : goal.invariant-loop-word
invariant-loop-word l =
    with_front l.names (each (λ w. vert w.now) (drop l.word-index l.words)) ≡ each (λ w. vert w.now) l.words

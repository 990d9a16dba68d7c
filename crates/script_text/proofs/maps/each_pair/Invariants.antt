use Rattle.std.proofs.Common.{◌≡◌, drop}
use Rattle.text_words.specs.Each.{each, with_front}
use Rattle.script_text.specs.Maps.{pair}
use Rattle.script_text.proofs.maps.each_pair.Given as goal

abbrev pub invariant-loop-word : goal.invariant-loop-word
invariant-loop-word l =
    with_front l.pairs (each (λ w. pair w.now) (drop l.word-index l.words)) ≡ each (λ w. pair w.now) l.words

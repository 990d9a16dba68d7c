use Rattle.std.proofs.Common.{◌≡◌, drop}
use Rattle.text_words.specs.Each.{each, with_front}
use Rattle.text_words.specs.Text.{integer}
use Rattle.script_text.proofs.values.each_int.Given as goal

abbrev pub invariant-loop-part : goal.invariant-loop-part
invariant-loop-part l =
    with_front l.numbers (each (λ p. integer 18 p.now) (drop l.part-index l.parts))
    ≡ each (λ p. integer 18 p.now) l.parts

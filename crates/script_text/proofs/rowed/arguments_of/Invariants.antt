use Rattle.std.proofs.Common.{◌≡◌, drop}
use Rattle.text_words.specs.Outcome.{steps}
use Rattle.script_text.specs.Arguments.{nothing}
use Rattle.script_text.specs.Rowed.{argument}
use Rattle.script_text.proofs.rowed.arguments_of.Given as goal

abbrev pub invariant-loop-word : goal.invariant-loop-word
invariant-loop-word l =
    steps (λ w. argument l.row w.now) l.arguments (drop l.word-index l.words)
    ≡ steps (λ w. argument l.row w.now) nothing l.words

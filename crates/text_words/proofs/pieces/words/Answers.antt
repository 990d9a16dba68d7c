use Rattle.std.proofs.Common.{ap, ◌∙◌, map}
use Rattle.std.proofs.lemmas.Result.{IfOk-weaker}
use Rattle.std.specs.List.{filter}
use Rattle.text_words.specs.Text.{is_word}
use Rattle.text_words.proofs.TextLemmas.{map-filter}
use Rattle.text_words.proofs.pieces.words.Goals as goal

pub returns : goal.returns
returns c =
    IfOk-weaker c.nonempty.result _ _ (λ v is.
    ap (map (λ w. w.now)) (is ∙ ap (filter (λ p. is_word p.now)) c.deref.ensures.value)
    ∙ map-filter (λ w. w.now) is_word c.in_ok-parts.parts.items ∙ ap (filter is_word) c.in_ok-parts.ensures)
    c.nonempty.ensures

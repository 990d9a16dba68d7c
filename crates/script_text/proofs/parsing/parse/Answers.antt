use Rattle.std.proofs.Common.{◌≡◌, ◌∙◌, length, map, ap, sym, arith}
use Rattle.std.proofs.lemmas.List.{length-map}
use Rattle.text_words.specs.Text.{lines}
use Rattle.text_words.proofs.TextLemmas.{length-lines}
use Rattle.script_text.proofs.DeclaredLemmas.{lines_declarable}
use Rattle.script_text.proofs.parsing.parse.Goals as goal

pub script_of_lines-requires : goal.script_of_lines-requires
script_of_lines-requires c =
    let same : length c.in_ok-lines.lines.items ≡ length (lines c.args.text.now) =
    sym (length-map c.in_ok-lines.lines.items (λ l. l.now)) ∙ ap length c.in_ok-lines.ensures in
    rw c.deref.ensures.value (omega (arith, length-lines c.args.text.now))

pub returns-clause-layers : goal.returns-clause-layers
returns-clause-layers c =
    lines_declarable c.script_of_lines.result (map (λ l. l.now) c.deref.result.now) c.script_of_lines.ensures

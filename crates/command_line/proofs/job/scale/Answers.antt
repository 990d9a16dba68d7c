use Rattle.std.proofs.Common.{◌≡◌, ◌∙◌, ap, rules, pos, Some}
use Rattle.clap.specs.declared.builder.value_parser.ValueParser.TheVariants as parser
use Rattle.command_line.proofs.job.scale.Goals as goal

pub returns-clause-rule : goal.returns-clause-rule
returns-clause-rule c =
    let range_is : c.range.result ≡ parser.Signed (pos 0) (pos 6) =
    rw (c.value_parser.ensures, c.new-2.ensures.start, c.new-2.ensures.end) at c.range.ensures in
    let given = c.value_parser-2.ensures.given in
    let parser_is : c.value_parser-2.result.value_parser ≡ Some (parser.Signed (pos 0) (pos 6)) =
    given.1 ∙ ap Some (given.2 ∙ range_is) in
    search rules

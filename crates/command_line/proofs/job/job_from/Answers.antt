use Rattle.std.proofs.Common.{◌≡◌, ◌∙◌, ℕ, Some, ap, sym, arith}
use Rattle.std.specs.Option.{option_map_or}
use Rattle.std.specs.Prelude.{Option}
use Rattle.std.specs.Str.Parse.{ExplainsUnsignedError, HasUnsignedDigitsIfOk, ParsesUnsigned}
use Rattle.clap.specs.Lexer.{without_minus}
use Rattle.clap.proofs.CallerReads.{signed_reads}
use Rattle.command_line.proofs.job.job_from.Goals as goal

pub returns-clause-within : goal.returns-clause-within
returns-clause-within c =
    let number = c.requires.3 in
    let one = c.get_one.ensures.value (without_minus number.0) number.1 in
    let got = signed_reads _
    (λ bs r. ParsesUnsigned 8 10 bs r × ExplainsUnsignedError 10 bs r × HasUnsignedDigitsIfOk bs r)
    8 0 6 number.0 c.get_one.result one (λ u x g. g.0) (omega arith) number.2 in
    let same : Some c.unwrap-scale.result ≡ Some got.0 = sym c.unwrap-scale.ensures ∙ got.1 in
    let is : c.unwrap-scale.result ≡ got.0 = ap (λ (o : Option ℕ). option_map_or (λ k. k) o 0) same in
    rw is got.3

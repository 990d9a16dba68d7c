use Rattle.std.proofs.Common.{◌≡◌, ◌∙◌, ap, subst, sym, map, []}
use Rattle.std.specs.String.{string_bytes}
use Rattle.clap.specs.Words.{App, app_of, fault_of, found_of, is_simple, is_simple_and_free, matches_of}
use Rattle.clap.specs.Kinds.{HasKind}
use Rattle.command_line.specs.Job.{command}
use Rattle.command_line.specs.declared.job.JobFault.TheVariants.{Refused}
use Rattle.command_line.proofs.Command.{command_simple, command_free}
use Rattle.command_line.proofs.Parsed.{has_all}
use Rattle.command_line.proofs.Reading.{read, refused, there}
use Rattle.command_line.proofs.job.job_of.Goals as goal

pub job_from-requires : goal.job_from-requires
job_from-requires c =
    has_all c.in-Ok.command c.in-Ok-try_get_matches_from.matches c.in-Ok.ensures
    c.in-Ok-try_get_matches_from.ensures.parsed

pub returns-in-Ok-try_get_matches_from-clause-told :
    goal.returns-in-Ok-try_get_matches_from-clause-told
returns-in-Ok-try_get_matches_from-clause-told c =
    let words = map string_bytes c.args.words.now in
    let parse = c.in-Ok-try_get_matches_from.ensures in
    let same : app_of c.in-Ok.command ≡ command = c.in-Ok.ensures in
    let free : fault_of command words ≡ [] =
    ap (λ (a : App). fault_of a words) (sym same) ∙ parse.kinds (ap is_simple_and_free same ∙ command_free) in
    let rows = (parse.matches (ap is_simple same ∙ command_simple)).0 ∙ ap (λ (a : App). matches_of a words) same in
    read words (found_of c.in-Ok-try_get_matches_from.matches) _ _ _ _ free rows c.job_from.ensures.found

pub returns-in-Ok-try_get_matches_from-clause-there :
    goal.returns-in-Ok-try_get_matches_from-clause-there
returns-in-Ok-try_get_matches_from-clause-there c =
    let words = map string_bytes c.args.words.now in
    let parse = c.in-Ok-try_get_matches_from.ensures in
    let same : app_of c.in-Ok.command ≡ command = c.in-Ok.ensures in
    let rows = (parse.matches (ap is_simple same ∙ command_simple)).0 ∙ ap (λ (a : App). matches_of a words) same in
    there words (found_of c.in-Ok-try_get_matches_from.matches) _ _ _ _ rows c.job_from.ensures.found

pub returns-in-Err-try_get_matches_from-clause-refused :
    goal.returns-in-Err-try_get_matches_from-clause-refused
returns-in-Err-try_get_matches_from-clause-refused c is =
    let words = map string_bytes c.args.words.now in
    let error = c.in-Err-try_get_matches_from.error in
    let same : app_of c.in-Ok.command ≡ command = c.in-Ok.ensures in
    let has = c.in-Err-try_get_matches_from.ensures.kinds (ap is_simple_and_free same ∙ command_free) in
    let inner : c.fault_of.result ≡ Refused = cc in
    refused words error (subst (λ (a : App). HasKind (fault_of a words) error) same has) (sym c.fault_of.ensures ∙ inner)

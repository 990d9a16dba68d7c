use Rattle.std.proofs.Common.{refl}
use Rattle.clap.proofs.OnLiterals.{clap_on_literals}
use Rattle.command_line.specs.Job.{job_of}
use Rattle.command_line.proofs.laws.read.Goals as goal

pub returns-clause-anywhere : goal.returns-clause-anywhere
unfolding clap_on_literals job_of
returns-clause-anywhere c = (refl, refl, refl, refl, refl)

pub returns-clause-names : goal.returns-clause-names
unfolding clap_on_literals job_of
returns-clause-names c = (refl, refl)

pub returns-clause-ended : goal.returns-clause-ended
unfolding clap_on_literals job_of
returns-clause-ended c = (refl, refl, refl)

pub returns-clause-numbers : goal.returns-clause-numbers
unfolding clap_on_literals job_of
returns-clause-numbers c = (refl, refl, refl)

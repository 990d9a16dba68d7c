use Rattle.std.proofs.Common.{refl}
use Rattle.clap.proofs.OnLiterals.{clap_on_literals}
use Rattle.command_line.specs.Job.{job_of}
use Rattle.command_line.proofs.laws.refused.Goals as goal

pub returns-clause-numbers : goal.returns-clause-numbers
unfolding clap_on_literals job_of
returns-clause-numbers c = (refl, refl, refl, refl, refl, refl, refl)

pub returns-clause-dashes : goal.returns-clause-dashes
unfolding clap_on_literals job_of
returns-clause-dashes c = (refl, refl, refl, refl, refl, refl)

pub returns-clause-counts : goal.returns-clause-counts
unfolding clap_on_literals job_of
returns-clause-counts c = (refl, refl, refl, refl, refl)

-- The command is one of which clap's definition tells all.
use Rattle.std.proofs.Common.{◌≡◌, refl, true}
use Rattle.clap.specs.Words.{is_simple, is_simple_and_free}
use Rattle.clap.proofs.OnLiterals.{clap_on_literals}
use Rattle.command_line.specs.Job.{command}

pub command_simple : is_simple command ≡ true
unfolding clap_on_literals
command_simple = refl

pub command_free : is_simple_and_free command ≡ true
unfolding clap_on_literals
command_free = refl

use Rattle.kernel_tests.specs.Sound.{IsSound}
use Rattle.kernel_tests.proofs.cycles.add_spokes.Given as goal

abbrev pub invariant-loop-name : goal.invariant-loop-name
invariant-loop-name g l = IsSound l.st

use Rattle.kernel_tests.specs.Sound.{IsSound}
use Rattle.kernel_tests.proofs.cycles.take_spokes.Given as goal

abbrev pub invariant-loop : goal.invariant-loop
invariant-loop g l = IsSound l.st

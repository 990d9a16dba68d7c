use Rattle.std.proofs.Common.{◌≡◌, drop}
use Rattle.op_basic.specs.Searching.{first_double}
use Rattle.op_basic.proofs.searching.first_double.Given as goal

abbrev pub invariant-loop-k : goal.invariant-loop-k
invariant-loop-k l = first_double (drop l.k l.numbers) ≡ first_double l.numbers

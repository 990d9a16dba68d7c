use Rattle.std.proofs.Common.{arith}
use Rattle.std.proofs.lemmas.Int.{ints, to_z-of_z}
use Rattle.op_basic.proofs.coordinates.in_range.Goals as goal

pub returns-then-x-le1000000000 : goal.returns-then-x-le1000000000
returns-then-x-le1000000000 c = grind (arith, ints, to_z-of_z)

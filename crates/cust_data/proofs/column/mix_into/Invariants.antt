use Rattle.std.proofs.Common.{◌≡◌}
use Rattle.cust_data.proofs.MixedCells.{mixed_to}
use Rattle.cust_data.proofs.column.mix_into.Given as goal

abbrev pub invariant-loop-k : goal.invariant-loop-k
invariant-loop-k l = l.cell ≡ mixed_to l.initial.cell l.other l.num l.den l.k

use Rattle.std.proofs.Common.{◌≡◌, take}
use Rattle.cust_data.specs.Mixing.{int_sum}
use Rattle.cust_data.proofs.Mixes.{SumWithin}
use Rattle.cust_data.proofs.mixing.floor_mean.Given as goal

abbrev pub invariant-loop-value : goal.invariant-loop-value
invariant-loop-value l = (l.sum ≡ int_sum (take l.value-index l.values)) × SumWithin l.value-index l.sum

use Rattle.std.proofs.Common.{◌≡◌, ◌++◌, take}
use Rattle.bmesh_run.specs.Report.{listed}
use Rattle.bmesh_run.proofs.write.layers.push_numbers.Given as goal

-- the numbers so far are listed
abbrev pub invariant-loop-k : goal.invariant-loop-k
invariant-loop-k l = l.out.items ≡ l.fn.out.items ++ listed (take l.k l.numbers)

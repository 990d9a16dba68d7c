use Rattle.std.proofs.Common.{◌≡◌, ◌+◌, take}
use Rattle.cust_data.proofs.PutRows.{wide_of}
use Rattle.cust_data.proofs.cell_rows.column_with.Given as goal

abbrev pub invariant-loop-at : goal.invariant-loop-at
invariant-loop-at l = wide_of (take l.at l.columns) + l.number ≡ l.k

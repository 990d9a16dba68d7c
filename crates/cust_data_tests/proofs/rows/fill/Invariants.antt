use Rattle.std.proofs.Common.{◌≡◌, length}
use Rattle.cust_data_tests.proofs.rows.fill.Given as goal

abbrev pub invariant-loop-place : goal.invariant-loop-place
invariant-loop-place l = (l.set.layers ≡ l.initial.set.layers) × (length l.set.rows ≡ length l.initial.set.rows)

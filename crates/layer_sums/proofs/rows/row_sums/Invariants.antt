use Rattle.std.proofs.Common.{◌≡◌}
use Rattle.layer_sums.proofs.Summing.{sums_below}
use Rattle.layer_sums.proofs.rows.row_sums.Given as goal

-- the sums of the names so far
abbrev pub invariant-loop-n : goal.invariant-loop-n
invariant-loop-n g l = l.sums.items ≡ sums_below (g.S.Shape.complex l.shape) l.kind l.n

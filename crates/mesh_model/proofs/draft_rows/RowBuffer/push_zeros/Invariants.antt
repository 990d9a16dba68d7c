use Rattle.std.proofs.Common.{◌≡◌, ◌++◌}
use Rattle.cust_data.specs.Layers.{zeros}
use Rattle.mesh_model.proofs.draft_rows.RowBuffer.push_zeros.Given as goal

abbrev pub invariant-loop-k : goal.invariant-loop-k
invariant-loop-k l = l.self ≡ l.fn.self ++ zeros l.k

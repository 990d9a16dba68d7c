use Rattle.std.proofs.Common.{◌≡◌, ◌≤◌, ◌+◌, ◌++◌, take}
use Rattle.std.specs.Vec.{vec_len, vec_capacity}
use Rattle.mesh_trail.proofs.rows.push_row.Given as goal

abbrev pub invariant-loop-k : goal.invariant-loop-k
invariant-loop-k g l = record {
  items : l.values.items ≡ l.initial.values.items ++ take l.k (g.R.Row.vals l.row);
  len : vec_len l.values ≡ vec_len l.initial.values + l.k;
  room : vec_len l.initial.values + l.width ≤ vec_capacity l.values;
  capacity : vec_capacity l.initial.values ≤ vec_capacity l.values;
}

use Rattle.std.proofs.Common.{◌≡◌, filter, take}
use Rattle.mesh_core.specs.Seen.{now}
use Rattle.op_basic.specs.Deleting.{has_two_corners}
use Rattle.op_basic.proofs.boundary.inner_edges.Given as goal

abbrev pub invariant-loop-e : goal.invariant-loop-e
invariant-loop-e l = l.inner.items ≡ filter (has_two_corners (now l.mesh)) (take l.e-index l.edges)

use Rattle.std.proofs.Common.{◌≡◌, take}
use Rattle.mesh_core.specs.Seen.{now}
use Rattle.op_values.specs.Putting.{put_from, edges_put}
use Rattle.op_values.proofs.putting.put_at_edges.Given as goal

abbrev pub invariant-loop-e : goal.invariant-loop-e
invariant-loop-e l = record {
  now : now l.mesh ≡ edges_put (put_from l.from l.numbers) (now l.fn.mesh) (take l.e-index l.edges);
  base : l.mesh.base ≡ l.fn.mesh.base;
}

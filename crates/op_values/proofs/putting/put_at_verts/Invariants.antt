use Rattle.std.proofs.Common.{◌≡◌, take}
use Rattle.mesh_core.specs.Seen.{now}
use Rattle.op_values.specs.Putting.{put_from, verts_put}
use Rattle.op_values.proofs.putting.put_at_verts.Given as goal

abbrev pub invariant-loop-v : goal.invariant-loop-v
invariant-loop-v l = record {
  now : now l.mesh ≡ verts_put (put_from l.from l.numbers) (now l.fn.mesh) (take l.v-index l.verts);
  base : l.mesh.base ≡ l.fn.mesh.base;
}

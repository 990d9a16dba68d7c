use Rattle.std.proofs.Common.{◌≡◌, take}
use Rattle.mesh_core.specs.Seen.{now}
use Rattle.op_values.specs.Putting.{put_from, faces_put}
use Rattle.op_values.proofs.putting.put_at_faces.Given as goal

abbrev pub invariant-loop-f : goal.invariant-loop-f
invariant-loop-f l = record {
  now : now l.mesh ≡ faces_put (put_from l.from l.numbers) (now l.fn.mesh) (take l.f-index l.faces);
  base : l.mesh.base ≡ l.fn.mesh.base;
}

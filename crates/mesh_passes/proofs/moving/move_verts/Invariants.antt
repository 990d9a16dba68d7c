use Rattle.std.proofs.Common.{◌≡◌, take}
use Rattle.mesh_core.specs.Seen.{now}
use Rattle.mesh_passes.specs.Moving.{moved}
use Rattle.mesh_passes.proofs.moving.move_verts.Given as goal

abbrev pub invariant-loop-v : goal.invariant-loop-v
invariant-loop-v g l = record {
  now : now l.mesh ≡ moved (g.M.Motion.to l.motion) (now l.fn.mesh) (take l.v-index l.verts);
  base : l.mesh.base ≡ l.fn.mesh.base;
}

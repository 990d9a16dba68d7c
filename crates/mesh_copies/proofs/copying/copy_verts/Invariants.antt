use Rattle.std.proofs.Common.{◌≡◌, take}
use Rattle.mesh_core.specs.Seen.{now}
use Rattle.mesh_copies.specs.CopyingSteps.{with_vert_copies}
use Rattle.mesh_copies.proofs.copying.copy_verts.Given as goal

abbrev pub invariant-loop-v : goal.invariant-loop-v
invariant-loop-v l = record {
  now : now l.mesh ≡ with_vert_copies (now l.fn.mesh) (take l.v-index l.verts);
  base : l.mesh.base ≡ l.fn.mesh.base;
}

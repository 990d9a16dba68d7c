use Rattle.std.proofs.Common.{◌≡◌, take}
use Rattle.mesh_core.specs.Seen.{now}
use Rattle.mesh_passes.specs.Killing.{without_bare}
use Rattle.mesh_passes.proofs.kills.kill_bare.Given as goal

abbrev pub invariant-loop-v : goal.invariant-loop-v
invariant-loop-v l = record {
  now : now l.mesh ≡ without_bare (now l.fn.mesh) (take l.v-index l.verts);
  base : l.mesh.base ≡ l.fn.mesh.base;
}

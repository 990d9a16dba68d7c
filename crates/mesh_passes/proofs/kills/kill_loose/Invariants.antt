use Rattle.std.proofs.Common.{◌≡◌, take}
use Rattle.mesh_core.specs.Seen.{now}
use Rattle.mesh_passes.specs.Killing.{without_loose}
use Rattle.mesh_passes.proofs.kills.kill_loose.Given as goal

abbrev pub invariant-loop-e : goal.invariant-loop-e
invariant-loop-e l = record {
  now : now l.mesh ≡ without_loose (now l.fn.mesh) (take l.e-index l.edges);
  base : l.mesh.base ≡ l.fn.mesh.base;
}

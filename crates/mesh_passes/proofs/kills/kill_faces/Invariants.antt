use Rattle.std.proofs.Common.{◌≡◌, take}
use Rattle.mesh_core.specs.Seen.{now}
use Rattle.mesh_passes.specs.Killing.{without_faces}
use Rattle.mesh_passes.proofs.kills.kill_faces.Given as goal

abbrev pub invariant-loop-f : goal.invariant-loop-f
invariant-loop-f l = record {
  now : now l.mesh ≡ without_faces (now l.fn.mesh) (take l.f-index l.faces);
  base : l.mesh.base ≡ l.fn.mesh.base;
}

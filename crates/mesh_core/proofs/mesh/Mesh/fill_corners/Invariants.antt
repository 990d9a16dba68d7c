use Rattle.std.proofs.Common.{◌≡◌}
use Rattle.mesh_core.specs.Filling.{HasCornersTo}
use Rattle.mesh_core.proofs.mesh.Mesh.fill_corners.Given as goal

abbrev pub invariant-loop-i : goal.invariant-loop-i
invariant-loop-i l = record {
  so_far : HasCornersTo l.self l.draft l.f.0 l.i;
  base : l.self.base ≡ l.fn.self.base;
}

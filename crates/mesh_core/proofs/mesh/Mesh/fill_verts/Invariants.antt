use Rattle.std.proofs.Common.{◌≡◌}
use Rattle.mesh_core.specs.Filling.{HasVertsTo}
use Rattle.mesh_core.proofs.mesh.Mesh.fill_verts.Given as goal

abbrev pub invariant-loop-v : goal.invariant-loop-v
invariant-loop-v l = record { so_far : HasVertsTo l.self l.draft l.v; base : l.self.base ≡ l.fn.self.base }

use Rattle.std.proofs.Common.{◌≡◌}
use Rattle.mesh_core.specs.Filling.{HasFacesTo}
use Rattle.mesh_core.proofs.mesh.Mesh.fill_faces.Given as goal

abbrev pub invariant-loop-f : goal.invariant-loop-f
invariant-loop-f l = record { so_far : HasFacesTo l.self l.draft l.f; base : l.self.base ≡ l.fn.self.base }

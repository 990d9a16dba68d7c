use Rattle.std.proofs.Common.{◌≡◌}
use Rattle.mesh_core.specs.Filling.{HasEdgesTo}
use Rattle.mesh_core.proofs.mesh.Mesh.fill_edges.Given as goal

abbrev pub invariant-loop-e : goal.invariant-loop-e
invariant-loop-e l = record { so_far : HasEdgesTo l.self l.draft l.e; base : l.self.base ≡ l.fn.self.base }

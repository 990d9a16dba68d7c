use Rattle.std.proofs.Common.{◌≡◌, ◌<◌, ℕ, false}
use Rattle.mesh_model.specs.Table.{at, passes}
use Rattle.mesh_model.specs.Incidence.{uses_edge}
use Rattle.mesh_former.proofs.former_shape.FormerShape.is_loose.Given as goal

-- no face before has a corner along the edge
abbrev pub invariant-loop-f : goal.invariant-loop-f
invariant-loop-f g l = (n : ℕ) → n < l.f → passes (uses_edge l.e) (at l.self.faces n) ≡ false

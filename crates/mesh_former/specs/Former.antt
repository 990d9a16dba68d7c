-- A complex as it was.
use Rattle.std.specs.Prelude.{◌≤◌}
use Rattle.mesh_model.specs.Complex.{Complex, corner_sum}
use Rattle.mesh_model.specs.ChangeSet.{leads}
use Rattle.mesh_model.specs.Valid.{IsLinked}
use Rattle.mesh_model.specs.declared.limits.TheConstants.{MAX_CORNERS}
use Rattle.mesh_trail.specs.Pasts.{NotedPast}

-- where a past leads from a complex
abbrev pub former : NotedPast → Complex → Complex
former past now = leads past.changes now

-- it is linked, and its corners can be counted
pub record IsFormer (c : Complex) : Type 0 where
  pub linked : IsLinked c
  pub corners : corner_sum c.faces ≤ MAX_CORNERS

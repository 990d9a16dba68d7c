use Rattle.std.proofs.Common.{◌≡◌, ◌<◌, ℕ, false, Some}
use Rattle.std.specs.Prelude.{slice_get}
use Rattle.std.specs.Option.{option_map}
use Rattle.mesh_model.specs.Table.{at}
use Rattle.mesh_model.specs.Complex.{corners_of}
use Rattle.mesh_model.specs.Incidence.{is_along}
use Rattle.mesh_former.proofs.former.Former.has_along.Given as goal

-- no corner before runs along the edge
abbrev pub invariant-loop-i : goal.invariant-loop-i
invariant-loop-i g l = (n : ℕ) → n < l.i
    → option_map (is_along l.e) (slice_get (corners_of (at l.self.faces l.f.0)) n) ≡ Some false

-- What the conditions of mirror say.
use Rattle.std.proofs.Common.{◌≡◌, ℤ, true, List, [], ◌∷◌, None, ◌∙◌}
use Rattle.mesh_model.specs.Complex.{Complex}
use Rattle.mesh_model.specs.Refusals.{unless}
use Rattle.mesh_model.specs.Valid.{is_in_range}
use Rattle.mesh_model.specs.declared.names.VertName.{VertName}
use Rattle.mesh_model.specs.declared.refusal.Why.TheVariants.{BadValue}
use Rattle.op_slots.specs.declared.op.Axis.{Axis}
use Rattle.mesh_passes.specs.Moving.{unless_on_grid, first_leaving}
use Rattle.mesh_passes.proofs.Movings.{none_leaves}
use Rattle.mesh_passes.proofs.Conditions.{none_refused, unless_holds, last_of}
use Rattle.op_basic.specs.Motions.{mirroring, mirror_refusal}

pub mirror_may : (vs : List VertName) (axis : Axis) (about : ℤ) (c : Complex)
    → mirror_refusal vs axis about c ≡ None
    → (is_in_range about ≡ true) × (first_leaving (mirroring axis about) c vs ≡ None)
mirror_may vs axis about c h =
    let both = none_refused (unless (is_in_range about) BadValue)
    (unless_on_grid (mirroring axis about) c vs ∷ []) h in (
      unless_holds (is_in_range about) BadValue both.0,
      none_leaves (mirroring axis about) c vs (last_of (unless_on_grid (mirroring axis about) c vs) ∙ both.1),
    )

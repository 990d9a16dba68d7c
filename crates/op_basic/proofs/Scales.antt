-- What the conditions of scale say.
use Rattle.std.proofs.Common.{◌≡◌, ℤ, true, ◌&&◌, List, [], ◌∷◌, None, ◌∙◌}
use Rattle.mesh_model.specs.Complex.{Complex}
use Rattle.mesh_model.specs.Refusals.{unless}
use Rattle.mesh_model.specs.Valid.{is_on_grid}
use Rattle.mesh_model.specs.declared.names.VertName.{VertName}
use Rattle.mesh_model.specs.declared.records.Point.{Point}
use Rattle.mesh_model.specs.declared.refusal.Why.TheVariants.{BadValue}
use Rattle.mesh_passes.specs.Moving.{unless_on_grid, first_leaving}
use Rattle.mesh_passes.proofs.Movings.{none_leaves}
use Rattle.mesh_passes.proofs.Conditions.{none_refused, unless_holds, last_of}
use Rattle.op_basic.specs.Motions.{scaling, is_ratio, scale_refusal}

pub scale_may : (vs : List VertName) (about : Point) (num den : ℤ) (c : Complex)
    → scale_refusal vs about num den c ≡ None
    → ((is_on_grid about && is_ratio num den) ≡ true) × (first_leaving (scaling about num den) c vs ≡ None)
scale_may vs about num den c h =
    let both = none_refused (unless (is_on_grid about && is_ratio num den) BadValue)
    (unless_on_grid (scaling about num den) c vs ∷ []) h in (
      unless_holds (is_on_grid about && is_ratio num den) BadValue both.0,
      none_leaves (scaling about num den) c vs (last_of (unless_on_grid (scaling about num den) c vs) ∙ both.1),
    )

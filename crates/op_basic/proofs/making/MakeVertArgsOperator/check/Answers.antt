use Rattle.std.proofs.Common.{◌∙◌, [], ◌∷◌, None}
use Rattle.mesh_model.specs.Kernel.{with_vert_like}
use Rattle.mesh_model.specs.Refusals.{unless_too_many}
use Rattle.mesh_model.specs.Valid.{is_on_grid}
use Rattle.mesh_model.specs.declared.refusal.Why.TheVariants.{BadValue}
use Rattle.mesh_core.specs.Seen.{now}
use Rattle.mesh_passes.proofs.Conditions.{fails_unless, holds_unless, last_of}
use Rattle.std.proofs.Common.{sym}
use Rattle.op_basic.proofs.making.MakeVertArgsOperator.check.Goals as goal

pub returns-then-is_on_grid : goal.returns-then-is_on_grid
returns-then-is_on_grid c =
    c.unless_many_verts.ensures
    ∙ last_of (unless_too_many (with_vert_like (now c.args.mesh.now) c.args.self.now.at None))
    ∙ holds_unless (is_on_grid c.args.self.now.at) BadValue
    (unless_too_many (with_vert_like (now c.args.mesh.now) c.args.self.now.at None) ∷ [])
    (sym c.is_on_grid.ensures ∙ c.if-is_on_grid.true)

pub returns-else-is_on_grid : goal.returns-else-is_on_grid
returns-else-is_on_grid c =
    fails_unless (is_on_grid c.args.self.now.at) BadValue
    (unless_too_many (with_vert_like (now c.args.mesh.now) c.args.self.now.at None) ∷ [])
    (sym c.is_on_grid.ensures ∙ c.if-is_on_grid.false)

use Rattle.std.proofs.Common.{[], ◌∷◌, ◌&&◌, ap, sym, rules, ◌∙◌}
use Rattle.std.proofs.lemmas.Int.{to_z-of_z}
use mir.Val.{SFits}
use mir.Syntax.{w64}
use Rattle.mesh_model.specs.Valid.{is_on_grid}
use Rattle.mesh_model.specs.declared.refusal.Why.TheVariants.{BadValue}
use Rattle.mesh_core.specs.Seen.{now}
use Rattle.mesh_passes.specs.Moving.{unless_on_grid}
use Rattle.mesh_passes.proofs.Conditions.{fails_unless, holds_unless, last_of}
use Rattle.op_basic.specs.Motions.{scaling, is_ratio}
use Rattle.op_basic.proofs.scaling.ScaleArgsOperator.check.Goals as goal

pub returns-then-may_scale : goal.returns-then-may_scale
returns-then-may_scale c =
    let num : SFits w64 c.args.self.now.num = search rules in
    let den : SFits w64 c.args.self.now.den = search rules in
    let told = simp to_z-of_z at c.may_scale.ensures in
    let to = scaling c.args.self.now.about c.args.self.now.num c.args.self.now.den in
    (simp to_z-of_z at c.unless_on_grid.ensures)
    ∙ ap (unless_on_grid to (now c.args.mesh.now)) c.verts.ensures.names
    ∙ last_of (unless_on_grid to (now c.args.mesh.now) c.args.self.now.verts.verts)
    ∙ holds_unless (is_on_grid c.args.self.now.about && is_ratio c.args.self.now.num c.args.self.now.den) BadValue
    (unless_on_grid to (now c.args.mesh.now) c.args.self.now.verts.verts ∷ [])
    (sym told ∙ c.if-may_scale.true)

pub returns-else-may_scale : goal.returns-else-may_scale
returns-else-may_scale c =
    let num : SFits w64 c.args.self.now.num = search rules in
    let den : SFits w64 c.args.self.now.den = search rules in
    let told = simp to_z-of_z at c.may_scale.ensures in
    fails_unless (is_on_grid c.args.self.now.about && is_ratio c.args.self.now.num c.args.self.now.den) BadValue
    (unless_on_grid (scaling c.args.self.now.about c.args.self.now.num c.args.self.now.den) (now c.args.mesh.now)
    c.args.self.now.verts.verts ∷ [])
    (sym told ∙ c.if-may_scale.false)

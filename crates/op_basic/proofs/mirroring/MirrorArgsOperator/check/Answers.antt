use Rattle.std.proofs.Common.{[], ◌∷◌, ap, sym, rules, ◌∙◌}
use Rattle.std.proofs.lemmas.Int.{to_z-of_z}
use mir.Val.{SFits}
use mir.Syntax.{w64}
use Rattle.mesh_model.specs.Valid.{is_in_range}
use Rattle.mesh_model.specs.declared.refusal.Why.TheVariants.{BadValue}
use Rattle.mesh_core.specs.Seen.{now}
use Rattle.mesh_passes.specs.Moving.{unless_on_grid}
use Rattle.mesh_passes.proofs.Conditions.{fails_unless, holds_unless, last_of}
use Rattle.op_basic.specs.Motions.{mirroring}
use Rattle.op_basic.proofs.mirroring.MirrorArgsOperator.check.Goals as goal

pub returns-then-is_in_range : goal.returns-then-is_in_range
returns-then-is_in_range c =
    let plane : SFits w64 c.args.self.now.about = search rules in
    let told = simp to_z-of_z at c.is_in_range.ensures in
    let to = mirroring c.args.self.now.axis c.args.self.now.about in
    (simp to_z-of_z at c.unless_on_grid.ensures)
    ∙ ap (unless_on_grid to (now c.args.mesh.now)) c.verts.ensures.names
    ∙ last_of (unless_on_grid to (now c.args.mesh.now) c.args.self.now.verts.verts)
    ∙ holds_unless (is_in_range c.args.self.now.about) BadValue
    (unless_on_grid to (now c.args.mesh.now) c.args.self.now.verts.verts ∷ [])
    (sym told ∙ c.if-is_in_range.true)

pub returns-else-is_in_range : goal.returns-else-is_in_range
returns-else-is_in_range c =
    let plane : SFits w64 c.args.self.now.about = search rules in
    let told = simp to_z-of_z at c.is_in_range.ensures in
    fails_unless (is_in_range c.args.self.now.about) BadValue
    (unless_on_grid (mirroring c.args.self.now.axis c.args.self.now.about) (now c.args.mesh.now)
    c.args.self.now.verts.verts ∷ [])
    (sym told ∙ c.if-is_in_range.false)

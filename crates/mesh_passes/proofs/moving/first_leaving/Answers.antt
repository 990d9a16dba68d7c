use Rattle.std.proofs.Common.{◌≡◌, Bool, Option, Some, cond, drop, find, get_or, ap, sym, ◌∙◌}
use Rattle.std.proofs.lemmas.Bool.{cond-true, cond-false}
use Rattle.mesh_model.specs.Table.{at, passes}
use Rattle.mesh_model.specs.declared.names.VertName.{VertName}
use Rattle.mesh_core.specs.Seen.{now}
use Rattle.mesh_passes.specs.Moving.{leaves}
use Rattle.mesh_passes.proofs.Movings.{find_next}
use Rattle.mesh_passes.proofs.moving.first_leaving.Goals as goal

abbrev none : VertName
none = record { 0 = 0 }

pub returns-then-leaves : goal.returns-then-leaves
returns-then-leaves g c =
    let test : VertName → Bool = λ v. passes (leaves (g.M.Motion.to c.args.motion.now)) (at (now c.args.mesh.now).verts v.0) in
    sym (sym c.loop-v.invariant
    ∙ find_next test c.args.verts.now c.loop-v.v-index none c.leaves.result c.loop-v-test.true c.leaves.ensures
    ∙ cond-true c.leaves.result _ _ c.if-leaves.true)

pub loop-v-preserved : goal.loop-v-preserved
loop-v-preserved g c =
    let test : VertName → Bool = λ v. passes (leaves (g.M.Motion.to c.args.motion.now)) (at (now c.args.mesh.now).verts v.0) in
    sym (find_next test c.args.verts.now c.loop-v.v-index none c.leaves.result c.loop-v-test.true c.leaves.ensures
    ∙ cond-false c.leaves.result _ _ c.if-leaves.false)
    ∙ c.loop-v.invariant

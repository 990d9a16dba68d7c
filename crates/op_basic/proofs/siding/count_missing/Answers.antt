use Rattle.std.proofs.Common.{◌≡◌, ◌+◌, ℕ, take, sym, ap, ◌∙◌, arith}
use Rattle.mesh_model.specs.Incidence.{sides}
use Rattle.mesh_model.specs.declared.names.VertName.{VertName}
use Rattle.mesh_model.proofs.Polygons.{length-sides}
use Rattle.mesh_core.specs.Seen.{now}
use Rattle.op_basic.specs.Searching.{side_at, missing}
use Rattle.op_basic.proofs.SideEdges.{missing_none, missing_more, missing_few}
use Rattle.op_basic.proofs.SideLoops.{missing_before, missing_all}
use Rattle.op_basic.proofs.siding.count_missing.Goals as goal

abbrev none : VertName
none = record { 0 = 0 }

pub loop-i-init : goal.loop-i-init
loop-i-init c = sym (missing_none (now c.args.mesh.now) (sides c.args.verts.now))

pub overflow_add-count : goal.overflow_add-count
overflow_add-count c =
    let before : c.loop-i.count ≡ missing (now c.args.mesh.now) (take c.loop-i.i (sides c.args.verts.now)) =
    c.loop-i.invariant in
    let most = missing_before (now c.args.mesh.now) c.args.verts.now c.loop-i.i c.missing_at-count.result
    (side_at c.args.verts.now c.loop-i.i) c.loop-i-test.true c.missing_at-count.ensures in
    let few = c.requires.few in
    omega arith

pub loop-i-preserved : goal.loop-i-preserved
loop-i-preserved c =
    let on_side = c.loop-i-test.true in
    ap (λ (n : ℕ). n + c.missing_at-count.result) c.loop-i.invariant
    ∙ ap (λ (k : ℕ). missing (now c.args.mesh.now) (take c.loop-i.i (sides c.args.verts.now)) + k)
    c.missing_at-count.ensures
    ∙ missing_more (now c.args.mesh.now) (sides c.args.verts.now) c.loop-i.i (none, none)
    (omega (arith, length-sides c.args.verts.now))

pub returns-clause-count : goal.returns-clause-count
returns-clause-count c = c.loop-i.invariant
    ∙ missing_all (now c.args.mesh.now) c.args.verts.now c.loop-i.i c.loop-i-test.false

pub returns-clause-few : goal.returns-clause-few
returns-clause-few c =
    let all : c.loop-i.count ≡ missing (now c.args.mesh.now) (sides c.args.verts.now) = c.loop-i.invariant
    ∙ missing_all (now c.args.mesh.now) c.args.verts.now c.loop-i.i c.loop-i-test.false in
    let few = missing_few (now c.args.mesh.now) (sides c.args.verts.now) in
    omega (arith, length-sides c.args.verts.now)

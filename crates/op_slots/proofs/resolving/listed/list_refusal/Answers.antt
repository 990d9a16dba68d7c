use Rattle.std.proofs.Common.{sym}
use Rattle.mesh_model.specs.Refusals.{unless_there}
use Rattle.mesh_model.specs.declared.names.Elem.TheVariants.{Vert}
use Rattle.mesh_model.specs.declared.names.VertName.{VertName}
use Rattle.op_slots.proofs.Firsts.{stopped_at, passed_over}
use Rattle.op_slots.proofs.resolving.listed.list_refusal.Goals as goal

pub returns-in-Some : goal.returns-in-Some
returns-in-Some g c =
    stopped_at (λ (v : VertName). unless_there (g.S.Shape.complex c.args.shape.now) (Vert v)) c.args.names.now
    c.loop-name.name-index _ _ c.in-Some.refusal c.loop-name-test.true
    (sym c.in-Some.ensures) c.loop-name.invariant

pub loop-name-preserved : goal.loop-name-preserved
loop-name-preserved g c =
    passed_over (λ (v : VertName). unless_there (g.S.Shape.complex c.args.shape.now) (Vert v)) c.args.names.now
    c.loop-name.name-index _ _ c.loop-name-test.true
    (sym c.in_default.ensures) c.loop-name.invariant

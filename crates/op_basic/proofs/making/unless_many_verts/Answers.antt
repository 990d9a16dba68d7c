use Rattle.std.proofs.Common.{ap, ◌∙◌, arith}
use Rattle.mesh_model.specs.Refusals.{limit_passed, refused_of}
use Rattle.mesh_model.specs.declared.records.Counters.{Counters}
use Rattle.mesh_model.specs.declared.refusal.Why.TheVariants.{TooMany}
use Rattle.mesh_core.specs.Seen.{now}
use Rattle.op_basic.proofs.MadeVerts.{one_more}
use Rattle.op_basic.proofs.making.unless_many_verts.Goals as goal

pub overflow_add-verts : goal.overflow_add-verts
overflow_add-verts c =
    let few = c.requires.limits.verts in
    let same = ap (λ (n : Counters). n.verts) c.counters-before.ensures.counters in
    omega arith

pub returns : goal.returns
returns c = c.unless_too_many.ensures
    ∙ ap (λ (n : Counters). refused_of TooMany (limit_passed n))
    (one_more (now c.args.mesh.now) c.args.p c.counters-before.result c.counters-before.ensures.counters)

use Rattle.std.proofs.Common.{ap, ◌∙◌, arith}
use Rattle.mesh_model.specs.Refusals.{limit_passed, refused_of}
use Rattle.mesh_model.specs.declared.records.Counters.{Counters}
use Rattle.mesh_model.specs.declared.refusal.Why.TheVariants.{TooMany}
use Rattle.mesh_core.specs.Seen.{now}
use Rattle.op_basic.proofs.MadeEdges.{one_more}
use Rattle.op_basic.proofs.joining.unless_many_edges.Goals as goal

pub overflow_add-edges : goal.overflow_add-edges
overflow_add-edges c =
    let few = c.requires.limits.edges in
    let same = ap (λ (n : Counters). n.edges) c.counters-before.ensures.counters in
    omega arith

pub returns : goal.returns
returns c = c.unless_too_many.ensures
    ∙ ap (λ (n : Counters). refused_of TooMany (limit_passed n))
    (one_more (now c.args.mesh.now) c.args.a c.args.b c.counters-before.result c.counters-before.ensures.counters)

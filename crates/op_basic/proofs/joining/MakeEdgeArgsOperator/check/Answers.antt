use Rattle.std.proofs.Common.{List, ap, ◌∙◌}
use Rattle.mesh_model.specs.declared.names.VertName.{VertName}
use Rattle.mesh_core.specs.Seen.{now}
use Rattle.op_basic.specs.Making.{make_edge_refusal}
use Rattle.op_basic.proofs.joining.MakeEdgeArgsOperator.check.Goals as goal

pub returns : goal.returns
returns c = c.refused_on.ensures
    ∙ ap (λ (vs : List VertName). make_edge_refusal vs (now c.args.mesh.now)) c.as_slice.ensures

use Rattle.std.proofs.Common.{◌++◌, ◌∷◌, [], List, cond, get_or, ap, ◌∙◌, arith}
use Rattle.mesh_model.specs.declared.names.EdgeName.{EdgeName}
use Rattle.mesh_core.specs.Seen.{now}
use Rattle.op_basic.specs.Deleting.{has_two_corners}
use Rattle.op_basic.proofs.TwoCorners.{filter_next}
use Rattle.op_basic.proofs.boundary.inner_edges.Goals as goal

abbrev none : EdgeName
none = record { 0 = 0 }

pub loop-e-preserved : goal.loop-e-preserved
loop-e-preserved c =
    let e = get_or c.args.edges.now c.loop-e.e-index none in
    c.in_ok-push_inner.ensures
    ∙ ap (λ (es : List EdgeName). cond (has_two_corners (now c.args.mesh.now) e) (es ++ e ∷ []) es) c.loop-e.invariant
    ∙ filter_next (has_two_corners (now c.args.mesh.now)) c.args.edges.now c.loop-e.e-index none (omega arith)

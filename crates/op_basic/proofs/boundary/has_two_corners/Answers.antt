use Rattle.mesh_model.specs.Incidence.{corners_at_edge, is_along}
use Rattle.mesh_core.specs.Left.{corners_at_edge_left}
use Rattle.mesh_core.specs.Seen.{now}
use Rattle.op_basic.proofs.TwoCorners.{corners_distinct, told_none, told_two}
use Rattle.op_basic.proofs.boundary.has_two_corners.Goals as goal

pub returns-then-is_given : goal.returns-then-is_given
returns-then-is_given c =
    told_two corners_at_edge_left c.loops_of_edge-corners.result c.next.new.self c.next-then-is_given.new.self c.next.result
    c.next-then-is_given.result c.is_given.result c.is_given-then-is_given.result (corners_at_edge (now c.args.mesh.now) c.args.e)
    c.next.ensures.steps c.next-then-is_given.ensures.steps c.loops_of_edge-corners.ensures.items
    (corners_distinct (is_along c.args.e) (now c.args.mesh.now)) c.is_given.ensures c.if-is_given.true
    c.is_given-then-is_given.ensures

pub returns-else-is_given : goal.returns-else-is_given
returns-else-is_given c =
    told_none corners_at_edge_left c.loops_of_edge-corners.result c.next.new.self c.next.result c.is_given.result
    (corners_at_edge (now c.args.mesh.now) c.args.e) c.next.ensures.steps c.loops_of_edge-corners.ensures.items
    c.is_given.ensures c.if-is_given.false

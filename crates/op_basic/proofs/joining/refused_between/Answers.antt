use Rattle.std.proofs.Common.{sym, ◌∙◌}
use Rattle.mesh_core.specs.Seen.{now}
use Rattle.op_basic.proofs.MadeEdges.{same_ends, joined_by, joined_by_none}
use Rattle.op_basic.proofs.joining.refused_between.Goals as goal

pub returns-then-a-b : goal.returns-then-a-b
returns-then-a-b c = same_ends (now c.args.mesh.now) c.args.a c.args.b c.if-a-b.true c.requires.a

pub returns-in-Some : goal.returns-in-Some
returns-in-Some c = joined_by (now c.args.mesh.now) c.args.a c.args.b c.in-Some.e c.if-a-b.false
    (sym c.find_edge.ensures ∙ c.in-Some.is)

pub returns-in-None : goal.returns-in-None
returns-in-None c = c.unless_many_edges.ensures
    ∙ joined_by_none (now c.args.mesh.now) c.args.a c.args.b c.if-a-b.false (sym c.find_edge.ensures ∙ c.in-None.is)

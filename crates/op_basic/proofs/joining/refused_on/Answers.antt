use Rattle.std.proofs.Common.{length, List, sym, ap, ◌∙◌}
use Rattle.std.proofs.lemmas.Bool.{eqb-true}
use Rattle.mesh_model.specs.declared.names.VertName.{VertName}
use Rattle.mesh_core.specs.Seen.{now}
use Rattle.op_basic.specs.Making.{make_edge_refusal}
use Rattle.op_basic.proofs.Pairs.{two_of}
use Rattle.op_basic.proofs.MadeEdges.{not_two}
use Rattle.op_basic.proofs.joining.refused_on.Goals as goal

abbrev none : VertName
none = record { 0 = 0 }

pub returns-then-is_pair : goal.returns-then-is_pair
returns-then-is_pair c = c.refused_between.ensures
    ∙ ap (λ (vs : List VertName). make_edge_refusal vs (now c.args.mesh.now))
    (sym (two_of c.args.verts.now none (eqb-true (length c.args.verts.now) 2 (sym c.is_pair.ensures ∙ c.if-is_pair.true))))

pub returns-else-is_pair : goal.returns-else-is_pair
returns-else-is_pair c = not_two (now c.args.mesh.now) c.args.verts.now (sym c.is_pair.ensures ∙ c.if-is_pair.false)

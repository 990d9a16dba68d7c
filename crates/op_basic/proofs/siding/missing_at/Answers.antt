use Rattle.std.proofs.Common.{Option, not, is_some, sym, ap, ◌∙◌}
use Rattle.mesh_model.specs.declared.names.EdgeName.{EdgeName}
use Rattle.mesh_core.specs.Seen.{now}
use Rattle.op_basic.proofs.SideLoops.{one_if, told_missing}
use Rattle.op_basic.proofs.siding.missing_at.Goals as goal

pub returns-in-Some : goal.returns-in-Some
returns-in-Some c = ap (λ (o : Option EdgeName). one_if (not (is_some o))) (sym c.in-Some.is)
    ∙ told_missing (now c.args.mesh.now) c.args.verts.now c.args.i c.next_place-next.result c.find_edge.result
    c.requires.within c.next_place-next.ensures.next c.find_edge.ensures

pub returns-in-None : goal.returns-in-None
returns-in-None c = ap (λ (o : Option EdgeName). one_if (not (is_some o))) (sym c.in-None.is)
    ∙ told_missing (now c.args.mesh.now) c.args.verts.now c.args.i c.next_place-next.result c.find_edge.result
    c.requires.within c.next_place-next.ensures.next c.find_edge.ensures

use Rattle.std.proofs.Common.{List, All, ap, sym, subst, ◌∙◌}
use Rattle.mesh_model.specs.Table.{IsThere}
use Rattle.mesh_model.specs.Valid.{IsSound}
use Rattle.mesh_model.specs.declared.names.VertName.{VertName}
use Rattle.mesh_core.specs.Seen.{now}
use Rattle.mesh_passes.specs.Row.{only}
use Rattle.mesh_passes.proofs.Steps.{done}
use Rattle.op_basic.specs.Making.{make_edge_refusal, make_edge_result, with_edge_between}
use Rattle.op_basic.proofs.MadeEdges.{IsSound-pair}
use Rattle.op_basic.proofs.joining.MakeEdgeArgsOperator.change.Goals as goal

pub join-requires-clause-live : goal.join-requires-clause-live
join-requires-clause-live c =
    subst (λ (vs : List VertName). All (λ (v : VertName). IsThere (now c.args.mesh.now).verts v.0) vs)
    (sym c.as_slice.ensures) c.requires.fits

pub join-requires-clause-may : goal.join-requires-clause-may
join-requires-clause-may c =
    ap (λ (vs : List VertName). make_edge_refusal vs (now c.args.mesh.now)) c.as_slice.ensures ∙ c.requires.may

pub returns-clause-outcome : goal.returns-clause-outcome
returns-clause-outcome c =
    done (make_edge_result c.args.self.now.verts (now c.args.mesh.now)).0 c.only.result
    (with_edge_between (now c.args.mesh.now) c.args.self.now.verts) (now c.join.new.mesh)
    (c.only.ensures ∙ ap only c.in_ok-geom.ensures.new)
    (c.in_ok-geom.ensures.now ∙ ap (with_edge_between (now c.args.mesh.now)) c.as_slice.ensures)

pub returns-clause-sound : goal.returns-clause-sound
returns-clause-sound c =
    subst IsSound (sym (c.in_ok-geom.ensures.now ∙ ap (with_edge_between (now c.args.mesh.now)) c.as_slice.ensures))
    (IsSound-pair (now c.args.mesh.now) c.args.self.now.verts c.requires.fits c.requires.may c.requires.ready.sound)

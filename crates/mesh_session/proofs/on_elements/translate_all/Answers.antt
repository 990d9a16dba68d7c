use Rattle.mesh_core.specs.Seen.{now}
use Rattle.op_slots.specs.declared.resolving.want.Want.TheVariants as want
use Rattle.mesh_session.proofs.Arguments.{resolved_live}
use Rattle.mesh_session.proofs.Performances.{looked_up, unresolved}
use Rattle.mesh_session.proofs.on_elements.translate_all.Goals as goal

pub translate-requires-clause-live : goal.translate-requires-clause-live
translate-requires-clause-live c =
    (resolved_live (now c.args.mesh.now) c.args.bindings.now.bound want.Verts c.args.verts.now c.in-Ok.verts
    c.in-Ok.ensures).verts

pub returns-in-Ok : goal.returns-in-Ok
returns-in-Ok c = looked_up _ _ c.in-Ok.verts _ _ _ c.in-Ok.ensures c.translate.ensures

pub returns-in-Err : goal.returns-in-Err
returns-in-Err c = unresolved _ _ c.in-Err.fault c.args.mesh.now c.requires c.in-Err.ensures

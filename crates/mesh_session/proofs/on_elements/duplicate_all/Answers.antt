use Rattle.mesh_core.specs.Seen.{now}
use Rattle.op_slots.specs.declared.resolving.want.Want.TheVariants as want
use Rattle.mesh_session.proofs.Arguments.{resolved_live}
use Rattle.mesh_session.proofs.Performances.{looked_up, unresolved}
use Rattle.mesh_session.proofs.on_elements.duplicate_all.Goals as goal

pub duplicate-requires-clause-live : goal.duplicate-requires-clause-live
duplicate-requires-clause-live c =
    resolved_live (now c.args.mesh.now) c.args.bindings.now.bound want.Any c.args.geom.now c.in-Ok.geom c.in-Ok.ensures

pub returns-in-Ok : goal.returns-in-Ok
returns-in-Ok c = looked_up _ _ c.in-Ok.geom _ _ _ c.in-Ok.ensures c.duplicate.ensures

pub returns-in-Err : goal.returns-in-Err
returns-in-Err c = unresolved _ _ c.in-Err.fault c.args.mesh.now c.requires c.in-Err.ensures

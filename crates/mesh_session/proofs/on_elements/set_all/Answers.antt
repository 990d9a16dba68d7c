use Rattle.mesh_core.specs.Seen.{now}
use Rattle.mesh_session.specs.Operators.{kind_set}
use Rattle.mesh_session.proofs.Arguments.{resolved_live}
use Rattle.mesh_session.proofs.Performances.{looked_up, unresolved}
use Rattle.mesh_session.proofs.on_elements.set_all.Goals as goal

pub set_on-requires-clause-live : goal.set_on-requires-clause-live
set_on-requires-clause-live c =
    resolved_live (now c.args.mesh.now) c.args.bindings.now.bound (kind_set c.args.of) c.args.geom.now
    c.in-Ok.geom (rw c.kind_set.ensures at c.in-Ok.ensures)

pub returns-in-Ok : goal.returns-in-Ok
returns-in-Ok c = looked_up _ _ c.in-Ok.geom _ _ _ (rw c.kind_set.ensures at c.in-Ok.ensures) c.set_on.ensures

pub returns-in-Err : goal.returns-in-Err
returns-in-Err c =
    unresolved _ _ c.in-Err.fault c.args.mesh.now c.requires (rw c.kind_set.ensures at c.in-Err.ensures)

use Rattle.std.proofs.Common.{rules}
use Rattle.std.proofs.lemmas.Int.{to_z-of_z}
use mir.Val.{SFits}
use mir.Syntax.{w64}
use Rattle.mesh_core.specs.Seen.{now}
use Rattle.op_slots.specs.declared.resolving.want.Want.TheVariants as want
use Rattle.mesh_session.proofs.Arguments.{resolved_live}
use Rattle.mesh_session.proofs.Performances.{looked_up, unresolved}
use Rattle.mesh_session.proofs.on_elements.mirror_all.Goals as goal

pub mirror-requires-clause-live : goal.mirror-requires-clause-live
mirror-requires-clause-live c =
    (resolved_live (now c.args.mesh.now) c.args.bindings.now.bound want.Verts c.args.verts.now c.in-Ok.verts
    c.in-Ok.ensures).verts

pub returns-in-Ok : goal.returns-in-Ok
returns-in-Ok c =
    let about : SFits w64 c.args.about = search rules in
    looked_up _ _ c.in-Ok.verts _ _ _ c.in-Ok.ensures (rw (to_z-of_z w64 c.args.about about) at c.mirror.ensures)

pub returns-in-Err : goal.returns-in-Err
returns-in-Err c = unresolved _ _ c.in-Err.fault c.args.mesh.now c.requires c.in-Err.ensures

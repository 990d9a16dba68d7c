use Rattle.std.proofs.Common.{rules}
use Rattle.std.proofs.lemmas.Int.{to_z-of_z}
use mir.Val.{SFits, to_z, of_z}
use mir.Syntax.{w64}
use Rattle.mesh_core.specs.Seen.{now}
use Rattle.op_slots.specs.declared.resolving.want.Want.TheVariants as want
use Rattle.mesh_session.proofs.Arguments.{resolved_live}
use Rattle.mesh_session.proofs.Performances.{looked_up, unresolved, scaled_by}
use Rattle.mesh_session.proofs.on_elements.scale_all.Goals as goal

pub scale-requires-clause-live : goal.scale-requires-clause-live
scale-requires-clause-live c =
    (resolved_live (now c.args.mesh.now) c.args.bindings.now.bound want.Verts c.args.verts.now c.in-Ok.verts
    c.in-Ok.ensures).verts

pub returns-in-Ok : goal.returns-in-Ok
returns-in-Ok c =
    let num : SFits w64 c.args.num = search rules in
    let den : SFits w64 c.args.den = search rules in
    looked_up _ _ c.in-Ok.verts _ _ _ c.in-Ok.ensures
    (scaled_by c.in-Ok.verts.verts c.args.about c.args.num (to_z w64 (of_z w64 c.args.num)) c.args.den
    (to_z w64 (of_z w64 c.args.den)) c.args.mesh.now c.scale.new.mesh c.scale.result
    (to_z-of_z w64 c.args.num num) (to_z-of_z w64 c.args.den den) c.scale.ensures)

pub returns-in-Err : goal.returns-in-Err
returns-in-Err c = unresolved _ _ c.in-Err.fault c.args.mesh.now c.requires c.in-Err.ensures

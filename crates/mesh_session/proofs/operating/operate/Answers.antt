use Rattle.std.proofs.Common.{rules}
use Rattle.std.proofs.lemmas.Int.{to_z-of_z}
use mir.Val.{SFits, to_z, of_z}
use mir.Syntax.{w64}
use Rattle.mesh_core.specs.Seen.{now}
use Rattle.op_slots.specs.Values.{resolved}
use Rattle.op_slots.specs.declared.resolving.want.Want.TheVariants as want
use Rattle.mesh_session.proofs.Performances.{scaled_over}
use Rattle.mesh_session.proofs.operating.operate.Goals as goal

pub returns-in-Scale : goal.returns-in-Scale
returns-in-Scale c =
    let num : SFits w64 c.in-Scale.num = search rules in
    let den : SFits w64 c.in-Scale.den = search rules in
    rw c.in-Scale.is
    (scaled_over (resolved (now c.args.mesh.now) c.args.bindings.now.bound want.Verts c.in-Scale.verts) c.in-Scale.about
    c.in-Scale.num (to_z w64 (of_z w64 c.in-Scale.num)) c.in-Scale.den (to_z w64 (of_z w64 c.in-Scale.den))
    c.args.mesh.now c.scale_all.new.mesh c.scale_all.result (to_z-of_z w64 c.in-Scale.num num)
    (to_z-of_z w64 c.in-Scale.den den) c.scale_all.ensures)

pub returns-in-Mirror : goal.returns-in-Mirror
returns-in-Mirror c =
    let about : SFits w64 c.in-Mirror.about = search rules in
    rw c.in-Mirror.is (rw (to_z-of_z w64 c.in-Mirror.about about) at c.mirror_all.ensures)

pub returns-in-Delete : goal.returns-in-Delete
returns-in-Delete c = rw c.in-Delete.is c.delete_all.ensures

use Rattle.std.proofs.Common.{[], ◌∷◌, get_or, sym, ◌∙◌, arith}
use Rattle.mesh_model.specs.Lookups.{least_face}
use Rattle.mesh_model.specs.Refusals.{unless_too_many}
use Rattle.mesh_model.specs.declared.names.VertName.{VertName}
use Rattle.mesh_core.specs.Seen.{now}
use Rattle.mesh_passes.proofs.Conditions.{last_of}
use Rattle.op_basic.specs.Making.{has_just, with_face_on}
use Rattle.op_basic.proofs.FaceChecks.{least_alike, again_fails, again_holds}
use Rattle.op_basic.proofs.Searched.{first_among}
use Rattle.op_basic.proofs.facing.refused_again.Goals as goal

abbrev none : VertName
none = record { 0 = 0 }

pub face_on-requires-clause-among : goal.face_on-requires-clause-among
face_on-requires-clause-among c =
    let least = c.requires.least in
    c.requires.alike (get_or c.args.verts.now 0 none).0 ∙ first_among c.args.verts.now none (omega arith)

pub returns-in-Some : goal.returns-in-Some
returns-in-Some c =
    again_fails (least_face (has_just c.args.verts.now) (now c.args.mesh.now)) c.in-Some.f _
    (sym (least_alike (now c.args.mesh.now) c.args.verts.now c.args.numbers.now c.requires.alike)
    ∙ sym c.in_ok-f.ensures ∙ c.in-Some.is)

pub returns-in-None : goal.returns-in-None
returns-in-None c = c.unless_many.ensures
    ∙ last_of (unless_too_many (with_face_on (now c.args.mesh.now) c.args.verts.now))
    ∙ again_holds (least_face (has_just c.args.verts.now) (now c.args.mesh.now))
    (unless_too_many (with_face_on (now c.args.mesh.now) c.args.verts.now) ∷ [])
    (sym (least_alike (now c.args.mesh.now) c.args.verts.now c.args.numbers.now c.requires.alike)
    ∙ sym c.in_ok-f.ensures ∙ c.in-None.is)

use Rattle.std.proofs.Common.{List, All, ap, sym, subst, ◌∙◌}
use Rattle.mesh_model.specs.Table.{IsThere}
use Rattle.mesh_model.specs.Closure.{new_between}
use Rattle.mesh_model.specs.Valid.{IsSound}
use Rattle.mesh_model.specs.declared.names.VertName.{VertName}
use Rattle.mesh_core.specs.Seen.{now}
use Rattle.mesh_passes.specs.Row.{only}
use Rattle.mesh_passes.proofs.Steps.{done}
use Rattle.op_basic.specs.Making.{make_face_refusal, make_face_result, with_face_on}
use Rattle.op_basic.proofs.FaceMay.{may_face}
use Rattle.op_basic.proofs.MadeFaces.{IsSound-with_face_on}
use Rattle.op_basic.proofs.facing.MakeFaceArgsOperator.change.Goals as goal

pub make_on-requires-clause-live : goal.make_on-requires-clause-live
make_on-requires-clause-live c =
    subst (λ (vs : List VertName). All (λ (v : VertName). IsThere (now c.args.mesh.now).verts v.0) vs)
    (sym c.as_slice.ensures) c.requires.fits

pub make_on-requires-clause-may : goal.make_on-requires-clause-may
make_on-requires-clause-may c =
    ap (λ (vs : List VertName). make_face_refusal vs (now c.args.mesh.now)) c.as_slice.ensures ∙ c.requires.may

pub returns-clause-outcome : goal.returns-clause-outcome
returns-clause-outcome c =
    done (make_face_result c.args.self.now.verts (now c.args.mesh.now)).0 c.only.result
    (with_face_on (now c.args.mesh.now) c.args.self.now.verts) (now c.make_on.new.mesh)
    (c.only.ensures ∙ ap only (c.in_ok-geom.ensures.new
    ∙ ap (λ (vs : List VertName). new_between (now c.args.mesh.now) (with_face_on (now c.args.mesh.now) vs))
    c.as_slice.ensures))
    (c.in_ok-geom.ensures.now ∙ ap (with_face_on (now c.args.mesh.now)) c.as_slice.ensures)

pub returns-clause-sound : goal.returns-clause-sound
returns-clause-sound c =
    subst IsSound (sym (c.in_ok-geom.ensures.now ∙ ap (with_face_on (now c.args.mesh.now)) c.as_slice.ensures))
    (IsSound-with_face_on (now c.args.mesh.now) c.args.self.now.verts
    (may_face (now c.args.mesh.now) c.args.self.now.verts c.requires.fits c.requires.may)
    c.requires.ready.sound)

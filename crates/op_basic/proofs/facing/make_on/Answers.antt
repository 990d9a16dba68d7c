use Rattle.std.proofs.Common.{All, sym, ap, subst, ◌∙◌}
use Rattle.mesh_model.specs.Table.{IsThere}
use Rattle.mesh_model.specs.Complex.{Complex}
use Rattle.mesh_model.specs.declared.names.VertName.{VertName}
use Rattle.mesh_core.specs.Seen.{now}
use Rattle.op_basic.specs.Making.{make_face_refusal, with_face_on}
use Rattle.op_basic.proofs.FaceMay.{may_face, slots_are}
use Rattle.op_basic.proofs.facing.make_on.Goals as goal

pub new_names-requires-clause-most : goal.new_names-requires-clause-most
new_names-requires-clause-most c =
    (may_face (now c.args.mesh.now) c.args.verts.now c.requires.live c.requires.may).most

pub reserve_for-requires : goal.reserve_for-requires
reserve_for-requires c = (may_face (now c.args.mesh.now) c.args.verts.now c.requires.live c.requires.may).most

pub make_polygon-requires-clause-live : goal.make_polygon-requires-clause-live
make_polygon-requires-clause-live c =
    subst (λ (m : Complex). All (λ (v : VertName). IsThere m.verts v.0) c.args.verts.now)
    (sym c.reserve_for.ensures.now) c.requires.live

pub make_polygon-requires-clause-may : goal.make_polygon-requires-clause-may
make_polygon-requires-clause-may c = ap (make_face_refusal c.args.verts.now) c.reserve_for.ensures.now ∙ c.requires.may

pub returns-clause-now : goal.returns-clause-now
returns-clause-now c = c.in_ok-make_polygon.ensures.now
    ∙ ap (λ (m : Complex). with_face_on m c.args.verts.now) c.reserve_for.ensures.now

pub returns-clause-new : goal.returns-clause-new
returns-clause-new c = c.in_ok-geom.ensures
    ∙ sym (slots_are (now c.args.mesh.now) c.args.verts.now
    (may_face (now c.args.mesh.now) c.args.verts.now c.requires.live c.requires.may))

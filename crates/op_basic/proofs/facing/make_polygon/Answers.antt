use Rattle.std.proofs.Common.{◌∙◌}
use Rattle.mesh_core.specs.Seen.{now}
use Rattle.op_basic.proofs.FaceMay.{may_face, distinct, face_limit, face_some, face_few, face_verts, face_edges}
use Rattle.op_basic.proofs.FaceMay.{face_done}
use Rattle.op_basic.proofs.facing.make_polygon.Goals as goal

pub make_sides-requires-clause-least : goal.make_sides-requires-clause-least
make_sides-requires-clause-least c =
    (may_face (now c.args.mesh.now) c.args.verts.now c.requires.live c.requires.may).least

pub make_sides-requires-clause-distinct : goal.make_sides-requires-clause-distinct
make_sides-requires-clause-distinct c =
    distinct (now c.args.mesh.now) c.args.verts.now
    (may_face (now c.args.mesh.now) c.args.verts.now c.requires.live c.requires.may)

pub make_sides-requires-clause-limit : goal.make_sides-requires-clause-limit
make_sides-requires-clause-limit c =
    (may_face (now c.args.mesh.now) c.args.verts.now c.requires.live c.requires.may).limits.edges

pub make_face-requires-clause-limit : goal.make_face-requires-clause-limit
make_face-requires-clause-limit c =
    face_limit (now c.args.mesh.now) (now c.make_sides.new.mesh) c.args.verts.now c.deref.result.now
    (may_face (now c.args.mesh.now) c.args.verts.now c.requires.live c.requires.may) c.in_ok-make_sides.ensures.now
    (c.deref.ensures.value ∙ c.in_ok-make_sides.ensures.corners)

pub make_face-requires-clause-some : goal.make_face-requires-clause-some
make_face-requires-clause-some c =
    face_some (now c.args.mesh.now) (now c.make_sides.new.mesh) c.args.verts.now c.deref.result.now
    (may_face (now c.args.mesh.now) c.args.verts.now c.requires.live c.requires.may) c.in_ok-make_sides.ensures.now
    (c.deref.ensures.value ∙ c.in_ok-make_sides.ensures.corners)

pub make_face-requires-clause-few : goal.make_face-requires-clause-few
make_face-requires-clause-few c =
    face_few (now c.args.mesh.now) (now c.make_sides.new.mesh) c.args.verts.now c.deref.result.now
    (may_face (now c.args.mesh.now) c.args.verts.now c.requires.live c.requires.may) c.in_ok-make_sides.ensures.now
    (c.deref.ensures.value ∙ c.in_ok-make_sides.ensures.corners)

pub make_face-requires-clause-verts : goal.make_face-requires-clause-verts
make_face-requires-clause-verts c =
    face_verts (now c.args.mesh.now) (now c.make_sides.new.mesh) c.args.verts.now c.deref.result.now
    (may_face (now c.args.mesh.now) c.args.verts.now c.requires.live c.requires.may) c.in_ok-make_sides.ensures.now
    (c.deref.ensures.value ∙ c.in_ok-make_sides.ensures.corners)

pub make_face-requires-clause-edges : goal.make_face-requires-clause-edges
make_face-requires-clause-edges c =
    face_edges (now c.args.mesh.now) (now c.make_sides.new.mesh) c.args.verts.now c.deref.result.now
    (may_face (now c.args.mesh.now) c.args.verts.now c.requires.live c.requires.may) c.in_ok-make_sides.ensures.now
    (c.deref.ensures.value ∙ c.in_ok-make_sides.ensures.corners)

pub returns-clause-now : goal.returns-clause-now
returns-clause-now c =
    face_done (now c.args.mesh.now) (now c.make_sides.new.mesh) c.args.verts.now c.deref.result.now
    (may_face (now c.args.mesh.now) c.args.verts.now c.requires.live c.requires.may) c.in_ok-make_sides.ensures.now
    (c.deref.ensures.value ∙ c.in_ok-make_sides.ensures.corners)
    (now c.make_face.new.self) c.in_ok-make_face.ensures.now

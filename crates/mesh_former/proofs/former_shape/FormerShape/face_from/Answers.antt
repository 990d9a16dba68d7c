use Rattle.std.proofs.Common.{◌<◌, ◌∙◌, length, sym, arith}
use Rattle.mesh_model.proofs.Reading.{least_from-found, least_from-none}
use Rattle.mesh_former.proofs.former_shape.FormerShape.face_from.Goals as goal

pub returns-then-has_face : goal.returns-then-has_face
returns-then-has_face g c =
    let less : c.loop-n.n < length c.args.self.now.faces = omega (arith, c.next_face-n-end.ensures) in
    sym (least_from-found c.args.self.now.faces c.args.least c.loop-n.n (omega arith) less (sym c.has_face.ensures
    ∙ c.if-has_face.true) c.loop-n.invariant)

pub returns : goal.returns
returns g c = sym (least_from-none c.args.self.now.faces c.args.least
    (λ n from less. c.loop-n.invariant n from (omega (arith, c.next_face-n-end.ensures))))

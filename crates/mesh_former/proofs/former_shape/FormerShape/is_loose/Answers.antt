use Rattle.std.proofs.Common.{not, ap, sym, arith}
use Rattle.mesh_model.specs.Incidence.{uses_edge}
use Rattle.mesh_former.proofs.Loose.{none_stands}
use Rattle.mesh_former.proofs.former_shape.FormerShape.is_loose.Goals as goal

pub returns : goal.returns
returns g c = sym (ap not (none_stands (uses_edge c.args.e) c.args.self.now.faces
    (λ n less. c.loop-f.invariant n (omega (arith, c.next_face-f-end.ensures)))))

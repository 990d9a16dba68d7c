use Rattle.std.proofs.Common.{◌<◌, ◌∙◌, length, sym, arith}
use Rattle.mesh_model.proofs.Reading.{least_from-found, least_from-none}
use Rattle.mesh_former.proofs.former_shape.FormerShape.edge_from.Goals as goal

pub returns-then-has_edge : goal.returns-then-has_edge
returns-then-has_edge g c =
    let less : c.loop-n.n < length c.args.self.now.edges = omega (arith, c.next_edge-n-end.ensures) in
    sym (least_from-found c.args.self.now.edges c.args.least c.loop-n.n (omega arith) less (sym c.has_edge.ensures
    ∙ c.if-has_edge.true) c.loop-n.invariant)

pub returns : goal.returns
returns g c = sym (least_from-none c.args.self.now.edges c.args.least
    (λ n from less. c.loop-n.invariant n from (omega (arith, c.next_edge-n-end.ensures))))

use Rattle.std.proofs.Common.{◌<◌, ◌∙◌, length, sym, arith}
use Rattle.mesh_model.proofs.Reading.{least_from-found, least_from-none}
use Rattle.mesh_model.proofs.vert_columns.VertColumns.first_from.Goals as goal

pub returns-then-has : goal.returns-then-has
returns-then-has c =
    let less : c.loop-name.name < length c.args.self.now.table = omega (arith, c.len-name-end.ensures) in
    sym (least_from-found c.args.self.now.table c.args.least c.loop-name.name (omega arith) less (sym c.has.ensures
    ∙ c.if-has.true) c.loop-name.invariant)

pub returns : goal.returns
returns c = sym (least_from-none c.args.self.now.table c.args.least
    (λ n from less. c.loop-name.invariant n from (omega (arith, c.len-name-end.ensures))))

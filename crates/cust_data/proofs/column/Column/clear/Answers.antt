use Rattle.std.proofs.Common.{List, ℤ, ap, set, pos}
use Rattle.std.proofs.lemmas.List.{length-replicate}
use Rattle.cust_data.specs.Layers.{zeros}
use Rattle.cust_data.proofs.Widths.{holds-set}
use Rattle.cust_data.proofs.column.Column.clear.Goals as goal

-- zeros are as wide as the others
pub invariant_of-self : goal.invariant_of-self
invariant_of-self g c = holds-set g.row.N c.self.inside.cells.items c.args.place (zeros g.row.N) c.self.invariant
    (length-replicate g.row.N (pos 0))

-- the list of cells is the model's
pub returns : goal.returns
returns g c = ap (λ (cells : List (List ℤ)). set cells c.args.place (zeros g.row.N)) c.self.view_is

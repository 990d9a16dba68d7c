use Rattle.std.proofs.Common.{◌<◌, List, ℤ, length, get_or, set, ap, subst, sym}
use Rattle.std.proofs.lemmas.List.{get_or_read}
use Rattle.cust_data.specs.Layers.{zeros}
use Rattle.cust_data.proofs.Widths.{holds-set, wide_read}
use Rattle.cust_data.proofs.column.Column.copy.Goals as goal

-- a cell that was read is as wide as the others
pub invariant_of-self : goal.invariant_of-self
invariant_of-self g c =
    let P = λ (cells : List (List ℤ)). c.args.from < length cells in
    let in_range : c.args.from < length c.self.inside.cells.items = subst P (sym c.self.view_is) c.requires.from in
    holds-set g.row.N c.self.inside.cells.items c.args.to c.index.result.now c.self.invariant
    (wide_read g.row.N c.self.inside.cells.items c.args.from c.index.result.now c.self.invariant in_range
    c.index.ensures)

-- it is that of the model's list
pub returns : goal.returns
returns g c =
    let P = λ (cells : List (List ℤ)). c.args.from < length cells in
    let in_range : c.args.from < length c.self.inside.cells.items = subst P (sym c.self.view_is) c.requires.from in
    let read = get_or_read c.self.inside.cells.items c.args.from c.index.result.now in_range c.index.ensures
    (zeros g.row.N) in
    rw read (ap (λ (cells : List (List ℤ)). set cells c.args.to (get_or cells c.args.from (zeros g.row.N)))
    c.self.view_is)

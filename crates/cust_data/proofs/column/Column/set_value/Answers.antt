use Rattle.std.proofs.Common.{◌<◌, List, ℤ, length, get_or, set, ap, ◌∙◌, subst, sym, to_z, of_z, w64}
use Rattle.std.proofs.lemmas.List.{get_or_read, length-set}
use Rattle.std.proofs.lemmas.Int.{to_z-of_z}
use Rattle.cust_data.specs.Layers.{zeros}
use Rattle.cust_data.proofs.Widths.{holds-set, wide_read}
use Rattle.cust_data.proofs.column.Column.set_value.Goals as goal

-- the changed cell is as wide as the others
pub invariant_of-self : goal.invariant_of-self
invariant_of-self g c =
    let P = λ (cells : List (List ℤ)). c.args.place < length cells in
    let in_range : c.args.place < length c.self.inside.cells.items = subst P (sym c.self.view_is) c.requires.place in
    holds-set g.row.N c.self.inside.cells.items c.args.place
    (set c.index.result.now c.args.k (to_z w64 (of_z w64 c.args.to))) c.self.invariant
    (length-set c.index.result.now c.args.k (to_z w64 (of_z w64 c.args.to))
    ∙ wide_read g.row.N c.self.inside.cells.items c.args.place c.index.result.now c.self.invariant in_range
    c.index.ensures)

-- it is that of the model's list, changed
pub returns : goal.returns
returns g c =
    let P = λ (cells : List (List ℤ)). c.args.place < length cells in
    let in_range : c.args.place < length c.self.inside.cells.items = subst P (sym c.self.view_is) c.requires.place in
    let read = get_or_read c.self.inside.cells.items c.args.place c.index.result.now in_range c.index.ensures
    (zeros g.row.N) in
    rw (
      to_z-of_z w64 c.args.to c.ranges.to,
      read,
    ) (ap (λ (cells : List (List ℤ)). set cells c.args.place
    (set (get_or cells c.args.place (zeros g.row.N)) c.args.k c.args.to)) c.self.view_is)

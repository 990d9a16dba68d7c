use Rattle.std.proofs.Common.{◌<◌, List, ℤ, length, get_or, ap, ◌∙◌, subst, sym}
use Rattle.std.proofs.lemmas.List.{get_or_read}
use Rattle.cust_data.specs.Layers.{zeros}
use Rattle.cust_data.proofs.Widths.{cell_small, wide_read}
use Rattle.cust_data.proofs.column.Column.get.Goals as goal

-- a cell is small
pub shared_whole_as_slice-result : goal.shared_whole_as_slice-result
shared_whole_as_slice-result g c = cell_small g.row.N c.self.invariant.allowed

-- the cell that was read is that of the model's list
pub returns : goal.returns
returns g c =
    let P = λ (cells : List (List ℤ)). c.args.place < length cells in
    let in_range : c.args.place < length c.self.inside.cells.items = subst P (sym c.self.view_is) c.requires in
    record {
      cell = get_or_read c.self.inside.cells.items c.args.place c.index.result.now in_range c.index.ensures
          (zeros g.row.N) ∙ ap (λ (cells : List (List ℤ)). get_or cells c.args.place (zeros g.row.N)) c.self.view_is;
      wide = wide_read g.row.N c.self.inside.cells.items c.args.place c.index.result.now c.self.invariant in_range
          c.index.ensures;
    }

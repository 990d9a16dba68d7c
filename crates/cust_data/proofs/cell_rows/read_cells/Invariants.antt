use Rattle.std.proofs.Common.{◌≡◌, ◌++◌, take, drop}
use Rattle.cust_data.specs.Layers.{total}
use Rattle.cust_data.specs.Inside.{layers_of, row_at}
use Rattle.cust_data.proofs.cell_rows.read_cells.Given as goal

abbrev pub invariant-loop-column : goal.invariant-loop-column
invariant-loop-column l =
    (l.into ≡ row_at (take l.column-index l.columns) l.place ++ drop l.from l.initial.into)
    × (l.from ≡ total (layers_of (take l.column-index l.columns)))

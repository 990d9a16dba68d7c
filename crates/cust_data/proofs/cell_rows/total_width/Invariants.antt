use Rattle.std.proofs.Common.{◌≡◌, take}
use Rattle.cust_data.specs.Layers.{total}
use Rattle.cust_data.specs.Inside.{layers_of}
use Rattle.cust_data.proofs.cell_rows.total_width.Given as goal

abbrev pub invariant-loop-column : goal.invariant-loop-column
invariant-loop-column l = l.sum ≡ total (layers_of (take l.column-index l.columns))

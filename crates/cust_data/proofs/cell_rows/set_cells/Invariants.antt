use Rattle.std.proofs.Common.{◌≡◌, take}
use Rattle.cust_data.specs.Layers.{total}
use Rattle.cust_data.specs.Inside.{layers_of}
use Rattle.cust_data.proofs.PutRows.{put_to}
use Rattle.cust_data.proofs.cell_rows.set_cells.Given as goal

abbrev pub invariant-loop-column : goal.invariant-loop-column
invariant-loop-column l =
    (l.columns ≡ put_to l.place l.from l.column-index l.initial.columns)
    × (l.at ≡ total (layers_of (take l.column-index l.initial.columns)))

use Rattle.std.proofs.Common.{◌≡◌}
use Rattle.cust_data.specs.Filled.{grown}
use Rattle.cust_data.proofs.Columns.{changed_to}
use Rattle.cust_data.proofs.cell_rows.grow_cells.Given as goal

abbrev pub invariant-loop-column : goal.invariant-loop-column
invariant-loop-column l = l.columns ≡ changed_to (grown l.places) l.column-index l.initial.columns

use Rattle.std.proofs.Common.{◌≡◌}
use Rattle.cust_data.specs.Filled.{Filled, cell_at, with_cell}
use Rattle.cust_data.proofs.Columns.{changed_to}
use Rattle.cust_data.proofs.cell_rows.copy_cells.Given as goal

abbrev pub invariant-loop-column : goal.invariant-loop-column
invariant-loop-column l = l.columns ≡ changed_to (λ (c : Filled). with_cell c l.to (cell_at c l.from)) l.column-index
    l.initial.columns

use Rattle.std.proofs.Common.{◌<◌, sym, subst, length}
use Rattle.cust_data.specs.Filled.{Filled, cell_at, with_cell}
use Rattle.cust_data.proofs.Columns.{next_is, changed_more, changed_all}
use Rattle.cust_data.proofs.cell_rows.copy_cells.Goals as goal

-- the next column has these places
pub copy-requires-clause-from : goal.copy-requires-clause-from
copy-requires-clause-from c =
    let f = λ (x : Filled). with_cell x c.args.to (cell_at x c.args.from) in
    let P = λ (x : Filled). c.args.from < length x.cells in
    subst P (sym (next_is f c.loop-column.column-index c.args.columns.now c.loop-column.columns c.column-item.result
    c.loop-column-test.true c.loop-column.invariant))
    (c.requires.from c.loop-column.column-index c.column-item.result c.loop-column-test.true)

pub copy-requires-clause-to : goal.copy-requires-clause-to
copy-requires-clause-to c =
    let f = λ (x : Filled). with_cell x c.args.to (cell_at x c.args.from) in
    let P = λ (x : Filled). c.args.to < length x.cells in
    subst P (sym (next_is f c.loop-column.column-index c.args.columns.now c.loop-column.columns c.column-item.result
    c.loop-column-test.true c.loop-column.invariant))
    (c.requires.to c.loop-column.column-index c.column-item.result c.loop-column-test.true)

-- one column more
pub loop-column-preserved : goal.loop-column-preserved
loop-column-preserved c =
    changed_more (λ (x : Filled). with_cell x c.args.to (cell_at x c.args.from)) c.loop-column.column-index
    c.args.columns.now c.loop-column.columns c.column-item.result c.copy.new.self
    c.loop-column-test.true c.loop-column.invariant c.column-item.is c.copy.ensures

-- all columns
pub returns : goal.returns
returns c = changed_all (λ (x : Filled). with_cell x c.args.to (cell_at x c.args.from)) c.loop-column.column-index
    c.args.columns.now c.loop-column.columns c.loop-column-test.false c.loop-column.invariant

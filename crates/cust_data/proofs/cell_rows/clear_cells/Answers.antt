use Rattle.std.proofs.Common.{◌<◌, sym, subst, length}
use Rattle.cust_data.specs.Layers.{zeros}
use Rattle.cust_data.specs.Filled.{Filled, with_cell}
use Rattle.cust_data.proofs.Columns.{next_is, changed_more, changed_all}
use Rattle.cust_data.proofs.cell_rows.clear_cells.Goals as goal

-- the next column has this place
pub clear-requires : goal.clear-requires
clear-requires c =
    let f = λ (x : Filled). with_cell x c.args.place (zeros x.layer.width) in
    let P = λ (x : Filled). c.args.place < length x.cells in
    subst P (sym (next_is f c.loop-column.column-index c.args.columns.now c.loop-column.columns c.column-item.result
    c.loop-column-test.true c.loop-column.invariant))
    (c.requires c.loop-column.column-index c.column-item.result c.loop-column-test.true)

-- one column more
pub loop-column-preserved : goal.loop-column-preserved
loop-column-preserved c =
    changed_more (λ (x : Filled). with_cell x c.args.place (zeros x.layer.width)) c.loop-column.column-index
    c.args.columns.now c.loop-column.columns c.column-item.result c.clear.new.self
    c.loop-column-test.true c.loop-column.invariant c.column-item.is c.clear.ensures

-- all columns
pub returns : goal.returns
returns c = changed_all (λ (x : Filled). with_cell x c.args.place (zeros x.layer.width)) c.loop-column.column-index
    c.args.columns.now c.loop-column.columns c.loop-column-test.false c.loop-column.invariant

use Rattle.std.proofs.Common.{set, ap, ◌∙◌}
use Rattle.std.proofs.lemmas.List.{set-get_or}
use Rattle.cust_data.specs.Filled.{grown}
use Rattle.cust_data.proofs.Columns.{changed_more, changed_all}
use Rattle.cust_data.proofs.Answering.{on_err}
use Rattle.cust_data.proofs.cell_rows.grow_cells.Goals as goal

-- one column more
pub loop-column-preserved : goal.loop-column-preserved
loop-column-preserved c =
    changed_more (grown c.args.places) c.loop-column.column-index c.args.columns.now c.loop-column.columns
    c.column-item.result c.reserve.new.self
    c.loop-column-test.true c.loop-column.invariant c.column-item.is c.in_ok-reserve.ensures.ok

-- the columns up to here
pub returns-in_err-reserve-clause-err : goal.returns-in_err-reserve-clause-err
returns-in_err-reserve-clause-err c =
    on_err c.from_residual.result (
      c.loop-column.column-index,
      ap (set c.loop-column.columns c.loop-column.column-index) c.in_err-reserve.ensures.err
          ∙ (set-get_or c.loop-column.columns c.loop-column.column-index c.column-item.result ∙ c.loop-column.invariant),
    )

-- all columns
pub returns-clause-ok : goal.returns-clause-ok
returns-clause-ok c = changed_all (grown c.args.places) c.loop-column.column-index c.args.columns.now
    c.loop-column.columns c.loop-column-test.false c.loop-column.invariant

use Rattle.std.proofs.Common.{◌≡◌, get_or, ap, ◌∙◌, arith}
use Rattle.std.proofs.lemmas.List.{take_all}
use Rattle.cust_data.specs.Filled.{Filled}
use Rattle.cust_data.proofs.PutRows.{wide_of, wide_more, wide_next, wide_bound}
use Rattle.cust_data.proofs.cell_rows.total_width.Goals as goal

-- at most 64 numbers
pub overflow_add-sum : goal.overflow_add-sum
overflow_add-sum c =
    let width : c.width.result ≡ (get_or c.args.columns.now c.loop-column.column-index c.column-item.result).layer.width
    = c.width.ensures ∙ ap (λ (x : Filled). x.layer.width) c.column-item.is in
    let more = wide_more c.loop-column.column-index c.args.columns.now c.column-item.result c.loop-column-test.true in
    let bound = wide_bound c.args.columns.now c.requires.narrow in
    omega (arith, width, more, bound, c.loop-column.invariant, c.requires.few)

-- one width more
pub loop-column-preserved : goal.loop-column-preserved
loop-column-preserved c =
    let width : c.width.result ≡ (get_or c.args.columns.now c.loop-column.column-index c.column-item.result).layer.width
    = c.width.ensures ∙ ap (λ (x : Filled). x.layer.width) c.column-item.is in
    let next = wide_next c.loop-column.column-index c.args.columns.now c.column-item.result c.loop-column-test.true in
    omega (arith, width, next, c.loop-column.invariant)

-- all widths
pub returns : goal.returns
returns c = c.loop-column.invariant ∙ ap wide_of (take_all c.loop-column.column-index c.args.columns.now
    c.loop-column-test.false)

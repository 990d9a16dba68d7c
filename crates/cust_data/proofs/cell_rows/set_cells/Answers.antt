use Rattle.std.proofs.Common.{◌≡◌, ◌≤◌, ◌<◌, ◌+◌, ◌-◌, take, drop, length, ap, sym, subst, ◌∙◌, arith, rules}
use Rattle.std.proofs.lemmas.List.{length-take-le, length-drop}
use Rattle.cust_data.specs.Filled.{Filled}
use Rattle.cust_data.proofs.PutRows.{wide_next, put_next_is, part_within, put_more, put_to_all}
use Rattle.cust_data.proofs.cell_rows.set_cells.Goals as goal
use Rattle.cust_data.proofs.cell_rows.set_cells.Goals.{After-width}

-- the column's part of the row ends within it
end_within : (c : After-width) → c.loop-column.at + c.width.result ≤ length c.args.from.now
end_within c =
    let width : c.width.result ≡ c.column-item.result.layer.width =
    c.width.ensures ∙ ap (λ (x : Filled). x.layer.width) (sym c.column-item.is) in
    let same = put_next_is c.args.place c.args.from.now c.loop-column.column-index c.args.columns.now
    c.loop-column.columns c.column-item.result c.loop-column-test.true c.loop-column.invariant.0 c.column-item.is in
    part_within c.loop-column.column-index c.args.columns.now c.column-item.result c.args.from.now c.loop-column.at
    c.width.result c.loop-column-test.true same c.loop-column.invariant.1 width c.requires.wide

pub overflow_add-end : goal.overflow_add-end
overflow_add-end c = omega (arith, end_within c)

pub offset_bounds-from-at : goal.offset_bounds-from-at
offset_bounds-from-at c = omega (arith, end_within c)

pub slice_bounds-set-end : goal.slice_bounds-set-end
slice_bounds-set-end c =
    let within : c.loop-column.at + c.width.result ≤ length c.args.from.now = end_within c in
    search rules

-- the column has this place, and its part of the row is as wide as it
pub set-requires : goal.set-requires
set-requires c =
    let P = λ (x : Filled). c.args.place < length x.cells in
    let width : c.width.result ≡ c.column-item.result.layer.width =
    c.width.ensures ∙ ap (λ (x : Filled). x.layer.width) (sym c.column-item.is) in
    let same = put_next_is c.args.place c.args.from.now c.loop-column.column-index c.args.columns.now
    c.loop-column.columns c.column-item.result c.loop-column-test.true c.loop-column.invariant.0 c.column-item.is in
    let within = part_within c.loop-column.column-index c.args.columns.now c.column-item.result c.args.from.now
    c.loop-column.at c.width.result c.loop-column-test.true same c.loop-column.invariant.1 width c.requires.wide in
    let part : length (take (c.loop-column.at + c.width.result - c.loop-column.at)
    (drop c.loop-column.at c.args.from.now)) ≡ c.loop-column.at + c.width.result - c.loop-column.at =
    length-take-le (c.loop-column.at + c.width.result - c.loop-column.at) (drop c.loop-column.at c.args.from.now)
    (omega (arith, within, length-drop c.loop-column.at c.args.from.now)) in
    record {
      place = subst P (sym (sym c.column-item.is ∙ same)) (c.requires.place c.loop-column.column-index
          c.column-item.result c.loop-column-test.true);
      wide = part ∙ omega (arith, c.width.ensures);
    }

-- one column more
pub loop-column-preserved : goal.loop-column-preserved
loop-column-preserved c =
    let width : c.width.result ≡ c.column-item.result.layer.width =
    c.width.ensures ∙ ap (λ (x : Filled). x.layer.width) (sym c.column-item.is) in
    let same = put_next_is c.args.place c.args.from.now c.loop-column.column-index c.args.columns.now
    c.loop-column.columns c.column-item.result c.loop-column-test.true c.loop-column.invariant.0 c.column-item.is in (
      put_more c.args.place c.args.from.now c.loop-column.column-index c.args.columns.now c.loop-column.columns
          c.column-item.result c.set.new.self c.loop-column.at (c.loop-column.at + c.width.result)
          c.loop-column-test.true c.loop-column.invariant.0 c.column-item.is c.loop-column.invariant.1
          (omega (arith, width)) c.set.ensures,
      omega (
        arith,
        width,
        ap (λ (x : Filled). x.layer.width) same,
        wide_next c.loop-column.column-index c.args.columns.now c.column-item.result c.loop-column-test.true,
        c.loop-column.invariant.1,
      ),
    )

-- all columns have their part
pub returns : goal.returns
returns c = c.loop-column.invariant.0 ∙ put_to_all c.args.place c.args.from.now c.loop-column.column-index
    c.args.columns.now c.loop-column-test.false

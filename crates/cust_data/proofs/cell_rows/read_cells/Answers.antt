use Rattle.std.proofs.Common.{◌≡◌, ◌≤◌, ◌<◌, ◌+◌, ◌++◌, ℤ, List, get_or, take, drop, length, ap, sym, subst, ◌∙◌, arith, rules}
use Rattle.std.proofs.lemmas.List.{take_all, drop_all, append-nil}
use Rattle.std.proofs.lemmas.List.Elements.{All-take}
use Rattle.cust_data.specs.Filled.{Filled, cell_at}
use Rattle.cust_data.specs.Inside.{row_at}
use Rattle.cust_data.proofs.Columns.{length-row_at}
use Rattle.cust_data.proofs.PutRows.{wide_of, wide_more, wide_next, row_next, read_more}
use Rattle.cust_data.proofs.cell_rows.read_cells.Goals as goal
use Rattle.cust_data.proofs.cell_rows.read_cells.Goals.{After-get-cell}

-- the next column has this place
pub get-cell-requires : goal.get-cell-requires
get-cell-requires c =
    let P = λ (x : Filled). c.args.place < length x.cells in
    subst P (sym c.column-item.is) (c.requires.place c.loop-column.column-index c.column-item.result
    c.loop-column-test.true)

-- the cell is as wide as the layer
width_is : (c : After-get-cell) → length c.get-cell.result.now
    ≡ (get_or c.args.columns.now c.loop-column.column-index c.column-item.result).layer.width
width_is c = c.get-cell.ensures.wide ∙ ap (λ (x : Filled). x.layer.width) c.column-item.is

-- its part of the row ends within it
end_within : (c : After-get-cell) → c.loop-column.from + length c.get-cell.result.now ≤ length c.args.into.now
end_within c =
    let more = wide_more c.loop-column.column-index c.args.columns.now c.column-item.result c.loop-column-test.true in
    omega (arith, width_is c, more, c.loop-column.invariant.1, c.requires.room)

pub overflow_add-end : goal.overflow_add-end
overflow_add-end c = omega (arith, end_within c)

pub offset_bounds-into-from : goal.offset_bounds-into-from
offset_bounds-into-from c = omega (arith, end_within c)

pub slice_bounds-copy_from_slice-end : goal.slice_bounds-copy_from_slice-end
slice_bounds-copy_from_slice-end c =
    let within : c.loop-column.from + length c.get-cell.result.now ≤ length c.loop-column.into =
    omega (arith, end_within c) in
    search rules

-- one cell more
pub loop-column-preserved : goal.loop-column-preserved
loop-column-preserved c =
    let P = λ (x : Filled). length (cell_at x c.args.place) ≡ x.layer.width in
    let front : length (row_at (take c.loop-column.column-index c.args.columns.now) c.args.place) ≡ c.loop-column.from =
    length-row_at c.args.place (take c.loop-column.column-index c.args.columns.now)
    (All-take P c.loop-column.column-index c.args.columns.now c.requires.wide) ∙ sym c.loop-column.invariant.1 in
    let cell : c.copy_from_slice.new.self ≡ cell_at (get_or c.args.columns.now c.loop-column.column-index
    c.column-item.result) c.args.place =
    c.copy_from_slice.ensures.after ∙ (c.get-cell.ensures.cell
    ∙ ap (λ (x : Filled). cell_at x c.args.place) c.column-item.is) in
    let same_length : length c.copy_from_slice.new.self ≡ length c.get-cell.result.now =
    ap length c.copy_from_slice.ensures.after in (
      read_more (row_at (take c.loop-column.column-index c.args.columns.now) c.args.place) c.copy_from_slice.new.self
          c.args.into.now c.loop-column.into c.loop-column.from (c.loop-column.from + length c.get-cell.result.now)
          c.loop-column.invariant.0 front (omega (arith, same_length))
          ∙ ap (λ (row : List ℤ). row ++ drop (c.loop-column.from + length c.get-cell.result.now) c.args.into.now)
          (ap (λ (xs : List ℤ). row_at (take c.loop-column.column-index c.args.columns.now) c.args.place ++ xs) cell
          ∙ sym (row_next c.args.place c.loop-column.column-index c.args.columns.now c.column-item.result
          c.loop-column-test.true)),
      omega (
        arith,
        c.get-cell.ensures.wide,
        ap (λ (x : Filled). x.layer.width) c.column-item.is,
        wide_next c.loop-column.column-index c.args.columns.now c.column-item.result c.loop-column-test.true,
        c.loop-column.invariant.1,
      ),
    )

-- all cells are read
pub returns : goal.returns
returns c =
    let all : take c.loop-column.column-index c.args.columns.now ≡ c.args.columns.now =
    take_all c.loop-column.column-index c.args.columns.now c.loop-column-test.false in
    let past : length c.args.into.now ≤ c.loop-column.from =
    omega (arith, c.loop-column.invariant.1, ap wide_of all, c.requires.room) in
    c.loop-column.invariant.0 ∙ rw (all, drop_all c.loop-column.from c.args.into.now past)
    (append-nil (row_at c.args.columns.now c.args.place))

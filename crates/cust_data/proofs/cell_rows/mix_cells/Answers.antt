use Rattle.std.proofs.Common.{◌<◌, sym, subst, length, FitsSigned, w64}
use Rattle.std.proofs.lemmas.Int.{to_z-of_z}
use Rattle.cust_data.specs.Filled.{Filled, cell_at, with_cell}
use Rattle.cust_data.specs.Mixing.{mix_cell_by}
use Rattle.cust_data.proofs.Columns.{next_is, changed_more, changed_all}
use Rattle.cust_data.proofs.cell_rows.mix_cells.Goals as goal

-- the next column has these places
pub mix-requires-clause-a : goal.mix-requires-clause-a
mix-requires-clause-a c =
    let num : FitsSigned w64 c.args.num = c.ranges.num in
    let den : FitsSigned w64 c.args.den = c.ranges.den in
    let f = λ (x : Filled). with_cell x c.args.to (mix_cell_by x.layer.rule (cell_at x c.args.a) (cell_at x c.args.b)
    c.args.num c.args.den) in
    let P = λ (x : Filled). c.args.a < length x.cells in
    subst P (sym (next_is f c.loop-column.column-index c.args.columns.now c.loop-column.columns c.column-item.result
    c.loop-column-test.true (simp to_z-of_z at c.loop-column.invariant)))
    (c.requires.a c.loop-column.column-index c.column-item.result c.loop-column-test.true)

pub mix-requires-clause-b : goal.mix-requires-clause-b
mix-requires-clause-b c =
    let num : FitsSigned w64 c.args.num = c.ranges.num in
    let den : FitsSigned w64 c.args.den = c.ranges.den in
    let f = λ (x : Filled). with_cell x c.args.to (mix_cell_by x.layer.rule (cell_at x c.args.a) (cell_at x c.args.b)
    c.args.num c.args.den) in
    let P = λ (x : Filled). c.args.b < length x.cells in
    subst P (sym (next_is f c.loop-column.column-index c.args.columns.now c.loop-column.columns c.column-item.result
    c.loop-column-test.true (simp to_z-of_z at c.loop-column.invariant)))
    (c.requires.b c.loop-column.column-index c.column-item.result c.loop-column-test.true)

pub mix-requires-clause-to : goal.mix-requires-clause-to
mix-requires-clause-to c =
    let num : FitsSigned w64 c.args.num = c.ranges.num in
    let den : FitsSigned w64 c.args.den = c.ranges.den in
    let f = λ (x : Filled). with_cell x c.args.to (mix_cell_by x.layer.rule (cell_at x c.args.a) (cell_at x c.args.b)
    c.args.num c.args.den) in
    let P = λ (x : Filled). c.args.to < length x.cells in
    subst P (sym (next_is f c.loop-column.column-index c.args.columns.now c.loop-column.columns c.column-item.result
    c.loop-column-test.true (simp to_z-of_z at c.loop-column.invariant)))
    (c.requires.to c.loop-column.column-index c.column-item.result c.loop-column-test.true)

-- one column more
pub loop-column-preserved : goal.loop-column-preserved
loop-column-preserved c =
    let num : FitsSigned w64 c.args.num = c.ranges.num in
    let den : FitsSigned w64 c.args.den = c.ranges.den in
    simp to_z-of_z
    (changed_more (λ (x : Filled). with_cell x c.args.to (mix_cell_by x.layer.rule (cell_at x c.args.a)
    (cell_at x c.args.b) c.args.num c.args.den)) c.loop-column.column-index c.args.columns.now c.loop-column.columns
    c.column-item.result c.mix.new.self
    c.loop-column-test.true (simp to_z-of_z at c.loop-column.invariant) c.column-item.is
    (simp to_z-of_z at c.mix.ensures))

-- all columns
pub returns : goal.returns
returns c =
    let num : FitsSigned w64 c.args.num = c.ranges.num in
    let den : FitsSigned w64 c.args.den = c.ranges.den in
    changed_all (λ (x : Filled). with_cell x c.args.to (mix_cell_by x.layer.rule (cell_at x c.args.a)
    (cell_at x c.args.b) c.args.num c.args.den)) c.loop-column.column-index c.args.columns.now c.loop-column.columns
    c.loop-column-test.false (simp to_z-of_z at c.loop-column.invariant)

use Rattle.std.proofs.Common.{◌≡◌, get_or, ap, ◌∙◌, arith}
use Rattle.std.proofs.lemmas.List.{take_all, get_or_default}
use Rattle.cust_data.specs.Filled.{Filled}
use Rattle.cust_data.proofs.PutRows.{wide_of, wide_next}
use Rattle.cust_data.proofs.cell_rows.column_with.Goals as goal

-- nothing is passed
pub loop-at-init : goal.loop-at-init
loop-at-init c = omega arith

-- one column is passed
pub loop-at-preserved : goal.loop-at-preserved
loop-at-preserved c =
    let width : c.width-width.result ≡ (get_or c.args.columns.now c.loop-at.at c.index-columns-at.result).layer.width =
    c.width-width.ensures ∙ ap (λ (x : Filled). x.layer.width) c.index-columns-at.is in
    omega (
      arith,
      width,
      c.loop-at.invariant,
      wide_next c.loop-at.at c.args.columns.now c.index-columns-at.result c.loop-at-test.true,
    )

-- not all are
pub unreachable-requires : goal.unreachable-requires
unreachable-requires c = omega (
  arith,
  c.loop-at.invariant,
  c.requires,
  ap wide_of (take_all c.loop-at.at c.args.columns.now c.loop-at-test.false),
)

-- the next column has it
pub returns-then-number-width : goal.returns-then-number-width
returns-then-number-width c =
    let width : c.width-width.result ≡ (get_or c.args.columns.now c.loop-at.at c.index-columns-at.result).layer.width =
    c.width-width.ensures ∙ ap (λ (x : Filled). x.layer.width) c.index-columns-at.is in
    record {
      column = c.loop-at-test.true;
      number = c.loop-at.invariant;
      within = λ d. omega (
        arith,
        width,
        c.if-number-width.true,
        ap (λ (x : Filled). x.layer.width) (get_or_default c.args.columns.now c.loop-at.at d c.index-columns-at.result
            c.loop-at-test.true),
      );
    }

use Rattle.std.proofs.Common.{◌≡◌, ◌<◌, ℕ, Bool, true, false, List, get_or, length, ap, sym, ◌∙◌, arith, inl, inr}
use Rattle.std.proofs.lemmas.Bool.{cases_eq}
use Rattle.std.proofs.lemmas.List.{get_or_default}
use Rattle.cust_data.specs.Layers.{same_name}
use Rattle.cust_data.specs.Filled.{Filled}
use Rattle.cust_data.proofs.Finding.{position_at, position_none}
use Rattle.cust_data.proofs.cell_rows.find_column.Goals as goal

-- whether the column that was read has the name
tested : (columns : List Filled) (k : ℕ) (x d : Filled) (read name : List ℕ) (r b : Bool) → k < length columns
    → x ≡ get_or columns k x → read ≡ x.layer.name → r ≡ same_name read name → r ≡ b
    → same_name (get_or columns k d).layer.name name ≡ b
tested columns k x d read name r b low is named test known =
    ap (λ (y : Filled). same_name y.layer.name name) (get_or_default columns k d x low ∙ sym is)
    ∙ (ap (λ (bytes : List ℕ). same_name bytes name) (sym named) ∙ (sym test ∙ known))

-- one column more without it
pub loop-k-preserved : goal.loop-k-preserved
loop-k-preserved c j d low =
    elim (cases_eq j c.loop-k.k) [
      | inl same ↦ ap (λ (i : ℕ). same_name (get_or c.args.columns.now i d).layer.name c.args.name.now) same
          ∙ tested c.args.columns.now c.loop-k.k c.index-columns-k.result d c.name.result.now c.args.name.now
          c.eq.result false c.loop-k-test.true c.index-columns-k.is c.name.ensures c.eq.ensures c.if-eq.false
      | inr other ↦ c.loop-k.invariant j d (omega arith)
    ]

-- no column has it
pub returns : goal.returns
returns c = sym (position_none (λ (x : Filled). same_name x.layer.name c.args.name.now) c.args.columns.now
    (λ j d low. c.loop-k.invariant j d (omega arith)))

-- this one has it, and none before
pub returns-then-eq : goal.returns-then-eq
returns-then-eq c =
    sym (position_at (λ (x : Filled). same_name x.layer.name c.args.name.now) c.args.columns.now c.loop-k.k
    c.index-columns-k.result c.loop-k-test.true (λ j low. c.loop-k.invariant j c.index-columns-k.result low)
    (tested c.args.columns.now c.loop-k.k c.index-columns-k.result c.index-columns-k.result c.name.result.now
    c.args.name.now c.eq.result true c.loop-k-test.true c.index-columns-k.is c.name.ensures c.eq.ensures
    c.if-eq.true))

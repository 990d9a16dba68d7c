-- A row that is written cell after cell.
use Rattle.std.proofs.Common.{◌≡◌, ◌≢◌, ℕ, ◌+◌, ◌-◌, ◌≤◌, ◌<◌, ℤ, List, [], ◌∷◌, ◌++◌, length, take, drop, get_or, set, arith, refl, sym, ap, ◌∙◌, suc, zero, ◌*◌, add-one}
use Rattle.std.specs.Prelude.{All}
use Rattle.std.proofs.lemmas.List.{length-take-le, length-drop, take-append-drop, take_all, drop_all, drop-drop, append-nil, append_assoc, nil_from_length, take_more, take_at, drop_at, map-append}
use Rattle.std.proofs.lemmas.List.Concat.{flat_map-append}
use borrow.Rule.Slice.PartMut.{put_mid}
use Rattle.std.proofs.lemmas.List.Elements.{All-head, All-tail, All-cons, All-nil}
use Rattle.std.proofs.lemmas.List.Sums.{sum_by-cons, sum_by_push}
use Rattle.cust_data.specs.Layers.{Layer, total, with_row}
use Rattle.cust_data.specs.Filled.{Filled, cell_at, with_cell}
use Rattle.cust_data.specs.Inside.{layers_of, row_at, table_of, put_row, IsFilled, ColumnsHold}
use Rattle.cust_data.proofs.Columns.{cell_at_same, cell_at_other, filled_cell, row_written}

-- the columns while the first i of them have their part of the row
abbrev pub put_to : ℕ → List ℤ → ℕ → List Filled → List Filled
put_to p row i cs = put_row (take i cs) p row ++ drop i cs

-- the widths of columns
abbrev pub wide_of : List Filled → ℕ
wide_of cs = total (layers_of cs)

-- one column more
pub wide_of-cons : (c : Filled) (cs : List Filled) → wide_of (c ∷ cs) ≡ c.layer.width + wide_of cs
wide_of-cons c cs = sum_by-cons (λ (l : Layer). l.width) c.layer (layers_of cs)

-- some columns and the next are no wider than all
pub wide_more : (i : ℕ) (cs : List Filled) (d : Filled) → i < length cs
    → wide_of (take i cs) + (get_or cs i d).layer.width ≤ wide_of cs
wide_more i [] d low = absurd (omega arith)
wide_more zero (c ∷ cs) d low = omega (arith, wide_of-cons c cs)
wide_more (suc i) (c ∷ cs) d low = omega (
  arith,
  wide_of-cons c cs,
  wide_of-cons c (take i cs),
  wide_more i cs d (omega arith),
)

-- the next column is as it was
pub next_put : (p : ℕ) (row : List ℤ) (i : ℕ) (cs : List Filled) (d : Filled) → i < length cs
    → get_or (put_to p row i cs) i d ≡ get_or cs i d
next_put p row i [] d low = absurd (omega arith)
next_put p row zero (c ∷ cs) d low = refl
next_put p row (suc i) (c ∷ cs) d low = next_put p (drop c.layer.width row) i cs d (omega arith)

-- and so is what is read there
pub put_next_is : (p : ℕ) (row : List ℤ) (i : ℕ) (cs ds : List Filled) (x : Filled) → i < length cs
    → ds ≡ put_to p row i cs → x ≡ get_or ds i x → x ≡ get_or cs i x
put_next_is p row i cs ds x low e is = is ∙ (ap (λ (xs : List Filled). get_or xs i x) e ∙ next_put p row i cs x low)

-- its part of the row ends within it
pub part_within : (i : ℕ) (cs : List Filled) (x : Filled) (row : List ℤ) (at width : ℕ) → i < length cs
    → x ≡ get_or cs i x → at ≡ wide_of (take i cs) → width ≡ x.layer.width
    → length row ≡ wide_of cs → at + width ≤ length row
part_within i cs x row at width low same at_is width_is wide =
    omega (arith, wide_more i cs x low, ap (λ (c : Filled). c.layer.width) same, at_is, width_is, wide)

-- it gets its part of the row
put_suc : (p : ℕ) (row : List ℤ) (i : ℕ) (cs : List Filled) (d : Filled) → i < length cs
    → set (put_to p row i cs) i (with_cell (get_or cs i d) p
    (take (get_or cs i d).layer.width (drop (wide_of (take i cs)) row))) ≡ put_to p row (suc i) cs
put_suc p row i [] d low = absurd (omega arith)
put_suc p row zero (c ∷ cs) d low = refl
put_suc p row (suc i) (c ∷ cs) d low =
    ap (λ (xs : List Filled). with_cell c p (take c.layer.width row) ∷ xs)
    (rw (wide_of-cons c (take i cs), ← drop-drop (wide_of (take i cs)) c.layer.width row)
    (put_suc p (drop c.layer.width row) i cs d (omega arith)))

pub put_more : (p : ℕ) (row : List ℤ) (i : ℕ) (cs ds : List Filled) (x new : Filled) (at end : ℕ) → i < length cs
    → ds ≡ put_to p row i cs → x ≡ get_or ds i x
    → at ≡ wide_of (take i cs) → end ≡ at + x.layer.width
    → new ≡ with_cell (get_or ds i x) p (take (end - at) (drop at row)) → set ds i new ≡ put_to p row (i + 1) cs
put_more p row i cs ds x new at end low e is at_is end_is written =
    let here : get_or ds i x ≡ get_or cs i x = ap (λ (xs : List Filled). get_or xs i x) e ∙ next_put p row i cs x low in
    let same : x ≡ get_or cs i x = is ∙ here in
    let width : end - at ≡ (get_or cs i x).layer.width = omega (arith, ap (λ (c : Filled). c.layer.width) same) in
    ap (set ds i) written ∙ (ap (λ (xs : List Filled). set xs i
    (with_cell (get_or ds i x) p (take (end - at) (drop at row)))) e
    ∙ rw (here, width, at_is, add-one) (put_suc p row i cs x low))

-- all columns have theirs
pub put_to_all : (p : ℕ) (row : List ℤ) (i : ℕ) (cs : List Filled) → length cs ≤ i
    → put_to p row i cs ≡ put_row cs p row
put_to_all p row i cs past = rw (take_all i cs past, drop_all i cs past) (append-nil (put_row cs p row))

-- the sum with the next
pub wide_next : (i : ℕ) (cs : List Filled) (d : Filled) → i < length cs
    → wide_of (take (i + 1) cs) ≡ wide_of (take i cs) + (get_or cs i d).layer.width
wide_next i cs d low = rw (take_more cs i d low, map-append (λ (c : Filled). c.layer) (take i cs) (get_or cs i d ∷ []))
    (sum_by_push (λ (l : Layer). l.width) (layers_of (take i cs)) (get_or cs i d).layer)

-- columns of at most four numbers
pub wide_bound : (cs : List Filled) → All (λ (c : Filled). c.layer.width ≤ 4) cs → wide_of cs ≤ length cs * 4
wide_bound [] h = omega arith
wide_bound (c ∷ cs) h =
    let P = λ (x : Filled). x.layer.width ≤ 4 in
    omega (arith, wide_of-cons c cs, All-head P c cs h, wide_bound cs (All-tail P c cs h))

-- one cell more of a row
pub row_next : (p i : ℕ) (cs : List Filled) (d : Filled) → i < length cs
    → row_at (take (i + 1) cs) p ≡ row_at (take i cs) p ++ cell_at (get_or cs i d) p
row_next p i cs d low =
    rw (take_more cs i d low, flat_map-append (λ (c : Filled). cell_at c p) (take i cs) (get_or cs i d ∷ []))
    (ap (λ (xs : List ℤ). row_at (take i cs) p ++ xs) (append-nil (cell_at (get_or cs i d) p)))

-- a cell is read into its part of a row
pub read_more : (front cell whole into : List ℤ) (from end : ℕ) → into ≡ front ++ drop from whole → length front ≡ from
    → end ≡ from + length cell
    → put_mid from (end - from) into cell ≡ (front ++ cell) ++ drop end whole
read_more front cell whole into from end e front_is end_is =
    rw (
      e,
      take_at front (drop from whole) from front_is,
      drop_at front (drop from whole) from front_is,
      drop-drop (end - from) from whole,
    )
    (ap (λ (k : ℕ). front ++ (cell ++ drop k whole)) (omega arith) ∙ sym (append_assoc front cell (drop end whole)))

-- layers stay
layers-put_row : (p : ℕ) (row : List ℤ) (cs : List Filled) → layers_of (put_row cs p row) ≡ layers_of cs
layers-put_row p row [] = refl
layers-put_row p row (c ∷ cs) = ap (λ (ls : List Layer). c.layer ∷ ls) (layers-put_row p (drop c.layer.width row) cs)

-- rows at other places stay
put_row_other : (p k : ℕ) (row : List ℤ) (cs : List Filled) → k ≢ p → row_at (put_row cs p row) k ≡ row_at cs k
put_row_other p k row [] other = refl
put_row_other p k row (c ∷ cs) other = rw (
  cell_at_other c p k (take c.layer.width row) other,
  put_row_other p k (drop c.layer.width row) cs other,
) refl

-- the row is the one written
put_row_here : (n p : ℕ) (row : List ℤ) (cs : List Filled) → All (IsFilled n) cs → p < n → length row ≡ wide_of cs
    → row_at (put_row cs p row) p ≡ row
put_row_here n p row [] h in_range wide = sym (nil_from_length row wide)
put_row_here n p row (c ∷ cs) h in_range wide =
    let first = All-head (IsFilled n) c cs h in
    let long : p < length c.cells = omega (arith, first.long) in
    let rest : length (drop c.layer.width row) ≡ wide_of cs =
    omega (arith, length-drop c.layer.width row, wide_of-cons c cs, wide) in
    rw (
      cell_at_same c p (take c.layer.width row) long,
      put_row_here n p (drop c.layer.width row) cs (All-tail (IsFilled n) c cs h) in_range rest,
    )
    (take-append-drop c.layer.width row)

-- the columns are as they should be
put_row_filled : (n p : ℕ) (row : List ℤ) (cs : List Filled) → All (IsFilled n) cs → p < n → length row ≡ wide_of cs
    → All (IsFilled n) (put_row cs p row)
put_row_filled n p row [] h in_range wide = All-nil (IsFilled n)
put_row_filled n p row (c ∷ cs) h in_range wide =
    let first = All-head (IsFilled n) c cs h in
    let rest : length (drop c.layer.width row) ≡ wide_of cs =
    omega (arith, length-drop c.layer.width row, wide_of-cons c cs, wide) in
    let front : length (take c.layer.width row) ≡ c.layer.width =
    length-take-le c.layer.width row (omega (arith, wide_of-cons c cs, wide)) in
    All-cons (IsFilled n) (with_cell c p (take c.layer.width row)) (put_row cs p (drop c.layer.width row))
    (filled_cell n c p (take c.layer.width row) first in_range front)
    (put_row_filled n p (drop c.layer.width row) cs (All-tail (IsFilled n) c cs h) in_range rest)

pub put_row_holds : (n p : ℕ) (row : List ℤ) (cs : List Filled) → ColumnsHold cs n → p < n → length row ≡ wide_of cs
    → ColumnsHold (put_row cs p row) n
put_row_holds n p row cs h in_range wide = record {
  filled = put_row_filled n p row cs h.filled in_range wide;
  layers = rw (layers-put_row p row cs) h.layers;
}

-- and make the table with the row
pub put_row_table : (n p : ℕ) (row : List ℤ) (cs : List Filled) → ColumnsHold cs n → p < n → length row ≡ wide_of cs
    → table_of (put_row cs p row) n ≡ with_row (table_of cs n) p row
put_row_table n p row cs h in_range wide =
    row_written cs (put_row cs p row) n p row in_range (layers-put_row p row cs)
    (put_row_here n p row cs h.filled in_range wide) (λ k other. put_row_other p k row cs other)

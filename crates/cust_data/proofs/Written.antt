-- What a change of one row leaves, from the columns to the table.
use Rattle.std.proofs.Common.{◌≡◌, ℕ, ◌+◌, ◌≤◌, ◌<◌, ℤ, pos, List, [], ◌∷◌, ◌++◌, length, map, take, get_or, set, replicate, arith, refl, sym, ap, subst, ◌∙◌, suc, zero}
use Rattle.std.specs.List.{flat_map, zip}
use Rattle.std.proofs.lemmas.List.{map-append, length-replicate, length-append, length-set, set-append_left, set-append_right}
use Rattle.std.proofs.lemmas.List.Concat.{get_or-flat_map}
use Rattle.std.proofs.lemmas.List.Elements.{All-head, All-tail, All-take, All-set}
use Rattle.std.proofs.lemmas.Slice.Zip.{length-zip}
use Rattle.cust_data.specs.declared.rule.Rule.{Rule}
use Rattle.cust_data.specs.declared.rule.Rule.TheVariants.{Mix, Copy}
use Rattle.cust_data.specs.Layers.{Layer, LayerTable, IsTable, total, zeros, row_of, with_row}
use Rattle.cust_data.specs.Mixing.{mix, mix_by, mix_cell_by, mix_numbers, mix_row, rules}
use Rattle.cust_data.specs.Filled.{Filled, cell_at, with_cell}
use Rattle.cust_data.specs.Inside.{layers_of, row_at, table_of, put_row, AreWide, IsFilled, ColumnsHold}
use Rattle.cust_data.proofs.MixedCells.{zip-append, length-mix_cell}
use Rattle.cust_data.proofs.Columns.{cell_at_same, cell_at_other, filled_cell, length-row_at, row_written, length-rows_of, row_of-table, put_holds, put_table, zeros_row, is_table, wide_cells}
use Rattle.cust_data.proofs.PutRows.{put_row_holds, put_row_table}

-- ---- mixed rows

-- lists that follow one another are mixed one after the other
mix_numbers-append : (rs us : List Rule) (a c b d : List ℤ) (num den : ℤ) → length rs ≡ length a → length a ≡ length b
    → mix_numbers (rs ++ us) (a ++ c) (b ++ d) num den ≡ mix_numbers rs a b num den ++ mix_numbers us c d num den
mix_numbers-append rs us a c b d num den rules_same same =
    let pairs : length rs ≡ length (zip a b) = omega (arith, length-zip a b, rules_same, same) in
    rw (zip-append a c b d same, zip-append rs us (zip a b) (zip c d) pairs)
    (map-append (λ ((rule, (x, y)) : Rule × (ℤ × ℤ)). mix_by rule x y num den) (zip rs (zip a b)) (zip us (zip c d)))

-- a cell is mixed by the rule of each of its numbers
cell_by_numbers : (rule : Rule) (a b : List ℤ) (num den : ℤ) → length a ≡ length b
    → mix_cell_by rule a b num den ≡ mix_numbers (replicate (length a) rule) a b num den
cell_by_numbers Mix [] b num den same = refl
cell_by_numbers Copy [] b num den same = refl
cell_by_numbers rule (x ∷ a) [] num den same = absurd (omega (arith, same))
cell_by_numbers Mix (x ∷ a) (y ∷ b) num den same =
    ap (λ (xs : List ℤ). mix x y num den ∷ xs) (cell_by_numbers Mix a b num den (omega (arith, same)))
cell_by_numbers Copy (x ∷ a) (y ∷ b) num den same =
    ap (λ (xs : List ℤ). x ∷ xs) (cell_by_numbers Copy a b num den (omega (arith, same)))

-- as many numbers
length-mix_cell_by : (rule : Rule) (a b : List ℤ) (num den : ℤ) → length a ≡ length b
    → length (mix_cell_by rule a b num den) ≡ length a
length-mix_cell_by Mix a b num den same = length-mix_cell a b num den same
length-mix_cell_by Copy a b num den same = refl

-- the mixed cells are the mixed row
row_mixed : (a b : ℕ) (num den : ℤ) (cs : List Filled) → AreWide cs a → AreWide cs b
    → flat_map (λ (c : Filled). mix_cell_by c.layer.rule (cell_at c a) (cell_at c b) num den) cs
    ≡ mix_row (layers_of cs) (row_at cs a) (row_at cs b) num den
row_mixed a b num den [] wide_a wide_b = refl
row_mixed a b num den (c ∷ cs) wide_a wide_b =
    let P = λ (k : ℕ) (x : Filled). length (cell_at x k) ≡ x.layer.width in
    let first_a : length (cell_at c a) ≡ c.layer.width = All-head (P a) c cs wide_a in
    let first_b : length (cell_at c b) ≡ c.layer.width = All-head (P b) c cs wide_b in
    let same : length (cell_at c a) ≡ length (cell_at c b) = first_a ∙ sym first_b in
    let count : length (replicate c.layer.width c.layer.rule) ≡ length (cell_at c a) =
    length-replicate c.layer.width c.layer.rule ∙ sym first_a in
    let first : mix_cell_by c.layer.rule (cell_at c a) (cell_at c b) num den
    ≡ mix_numbers (replicate c.layer.width c.layer.rule) (cell_at c a) (cell_at c b) num den =
    cell_by_numbers c.layer.rule (cell_at c a) (cell_at c b) num den same
    ∙ ap (λ (n : ℕ). mix_numbers (replicate n c.layer.rule) (cell_at c a) (cell_at c b) num den) first_a in
    ap (λ (row : List ℤ). row ++ flat_map (λ (c : Filled). mix_cell_by c.layer.rule (cell_at c a) (cell_at c b) num den)
    cs) first
    ∙ (ap (λ (row : List ℤ). mix_numbers (replicate c.layer.width c.layer.rule) (cell_at c a) (cell_at c b) num den
    ++ row) (row_mixed a b num den cs (All-tail (P a) c cs wide_a) (All-tail (P b) c cs wide_b))
    ∙ sym (mix_numbers-append (replicate c.layer.width c.layer.rule) (rules (layers_of cs)) (cell_at c a) (row_at cs a)
    (cell_at c b) (row_at cs b) num den count same))

-- ---- written rows

-- columns ds are cs with one row written, which is made of the old table
pub record RowWritten (cs ds : List Filled) (n p : ℕ) (row : LayerTable → List ℤ) : Type 0 where
  pub holds : ColumnsHold ds n
  pub table : table_of ds n ≡ with_row (table_of cs n) p (row (table_of cs n))

-- a given row
pub set_done : (cs ds : List Filled) (n p : ℕ) (row : List ℤ) → ColumnsHold cs n → p < n
    → length row ≡ total (layers_of cs) → ds ≡ put_row cs p row → RowWritten cs ds n p (λ t. row)
set_done cs ds n p row h in_range wide e =
    rw e record { holds = put_row_holds n p row cs h in_range wide; table = put_row_table n p row cs h in_range wide }

-- zeros
pub clear_done : (cs ds : List Filled) (n p : ℕ) → ColumnsHold cs n → p < n
    → ds ≡ map (λ (c : Filled). with_cell c p (zeros c.layer.width)) cs
    → RowWritten cs ds n p (λ t. zeros (total t.layers))
clear_done cs ds n p h in_range e = rw e record {
  holds = put_holds n p (λ (c : Filled). zeros c.layer.width) cs h in_range
      (λ c f. length-replicate c.layer.width (pos 0));
  table = put_table n p (λ (c : Filled). zeros c.layer.width) cs h in_range
      ∙ ap (with_row (table_of cs n) p) (zeros_row cs);
}

-- the row at another place
pub copy_done : (cs ds : List Filled) (n p from : ℕ) → ColumnsHold cs n → p < n → from < n
    → ds ≡ map (λ (c : Filled). with_cell c p (cell_at c from)) cs
    → RowWritten cs ds n p (λ t. row_of t from)
copy_done cs ds n p from h in_range from_in_range e = rw e record {
  holds = put_holds n p (λ (c : Filled). cell_at c from) cs h in_range (λ c f. f.wide from);
  table = put_table n p (λ (c : Filled). cell_at c from) cs h in_range
      ∙ ap (with_row (table_of cs n) p) (sym (row_of-table cs n from from_in_range));
}

-- two rows mixed
pub mix_done : (cs ds : List Filled) (n p a b : ℕ) (num den : ℤ) → ColumnsHold cs n → p < n → a < n → b < n
    → ds ≡ map (λ (c : Filled). with_cell c p (mix_cell_by c.layer.rule (cell_at c a) (cell_at c b) num den)) cs
    → RowWritten cs ds n p (λ t. mix_row t.layers (row_of t a) (row_of t b) num den)
mix_done cs ds n p a b num den h in_range a_in_range b_in_range e = rw e record {
  holds = put_holds n p (λ (c : Filled). mix_cell_by c.layer.rule (cell_at c a) (cell_at c b) num den) cs h in_range
      (λ c f. length-mix_cell_by c.layer.rule (cell_at c a) (cell_at c b) num den (f.wide a ∙ sym (f.wide b))
      ∙ f.wide a);
  table = put_table n p (λ (c : Filled). mix_cell_by c.layer.rule (cell_at c a) (cell_at c b) num den) cs h in_range
      ∙ ap (with_row (table_of cs n) p)
      (row_mixed a b num den cs (wide_cells n a cs h.filled) (wide_cells n b cs h.filled)
      ∙ (ap (λ (row : List ℤ). mix_row (layers_of cs) row (row_at cs b) num den) (sym (row_of-table cs n a a_in_range))
      ∙ ap (λ (row : List ℤ). mix_row (layers_of cs) (row_of (table_of cs n) a) row num den)
      (sym (row_of-table cs n b b_in_range))));
}

-- ---- the model

-- as many places as the table has rows
pub places_is : (cs : List Filled) (n : ℕ) (t : LayerTable) → table_of cs n ≡ t → length t.rows ≡ n
places_is cs n t e = ap (λ (x : LayerTable). length x.rows) (sym e) ∙ length-rows_of cs n

-- what a call that writes a row says
pub record RowSaid (xs : List Filled) (n p : ℕ) (row : LayerTable → List ℤ) (old : LayerTable) : Type 0 where
  pub holds : ColumnsHold xs n
  pub written : table_of xs n ≡ with_row old p (row old)
  pub table : IsTable (table_of xs n)

-- the columns are kept as a list of the same items
pub row_said : (xs ds cs : List Filled) (n p : ℕ) (row : LayerTable → List ℤ) (old : LayerTable) → xs ≡ ds
    → RowWritten cs ds n p row → table_of cs n ≡ old → RowSaid xs n p row old
row_said xs ds cs n p row old e w was = rw e record {
  holds = w.holds;
  written = w.table ∙ ap (λ (t : LayerTable). with_row t p (row t)) was;
  table = is_table ds n w.holds;
}

-- ---- one number of a row

-- what is made of the elements stays where the new one makes the same
flat_map-set : {A B : Type 0} (f : A → List B) (xs : List A) (i : ℕ) (y d : A) → f y ≡ f (get_or xs i d)
    → flat_map f (set xs i y) ≡ flat_map f xs
flat_map-set f [] i y d same = refl
flat_map-set {B = B} f (x ∷ xs) zero y d same = ap (λ (ys : List B). ys ++ flat_map f xs) same
flat_map-set {B = B} f (x ∷ xs) (suc i) y d same = ap (λ (ys : List B). f x ++ ys) (flat_map-set f xs i y d same)

-- a number is written into its cell, and so into the row
row_number : (p i j : ℕ) (to : ℤ) (y d : Filled) (cs : List Filled) → i < length cs
    → j < length (cell_at (get_or cs i d) p) → cell_at y p ≡ set (cell_at (get_or cs i d) p) j to
    → row_at (set cs i y) p ≡ set (row_at cs p) (length (row_at (take i cs) p) + j) to
row_number p i j to y d [] low within e = absurd (omega arith)
row_number p zero j to y d (c ∷ cs) low within e =
    ap (λ (cell : List ℤ). cell ++ row_at cs p) e
    ∙ (sym (set-append_left (cell_at c p) (row_at cs p) j to within)
    ∙ ap (λ (k : ℕ). set (cell_at c p ++ row_at cs p) k to) (omega arith))
row_number p (suc i) j to y d (c ∷ cs) low within e =
    let past : length (cell_at c p) ≤ length (cell_at c p ++ row_at (take i cs) p) + j =
    omega (arith, length-append (cell_at c p) (row_at (take i cs) p)) in
    ap (λ (row : List ℤ). cell_at c p ++ row) (row_number p i j to y d cs (omega arith) within e)
    ∙ (ap (λ (k : ℕ). cell_at c p ++ set (row_at cs p) k to)
    (omega (arith, length-append (cell_at c p) (row_at (take i cs) p)))
    ∙ sym (set-append_right (cell_at c p) (row_at cs p) (length (cell_at c p))
    (length (cell_at c p ++ row_at (take i cs) p) + j) to refl past))

-- layers stay where the new column has the layer of the old
layers-set : (cs : List Filled) (i : ℕ) (y d : Filled) → y.layer ≡ (get_or cs i d).layer
    → layers_of (set cs i y) ≡ layers_of cs
layers-set [] i y d same = refl
layers-set (c ∷ cs) zero y d same = ap (λ (l : Layer). l ∷ layers_of cs) same
layers-set (c ∷ cs) (suc i) y d same = ap (λ (ls : List Layer). c.layer ∷ ls) (layers-set cs i y d same)

-- the number of the row is that of the cell
pub value_is : (cs : List Filled) (n p at number k : ℕ) (x : Filled) (t : LayerTable) → ColumnsHold cs n
    → table_of cs n ≡ t → p < n → at < length cs → x ≡ get_or cs at x
    → total (layers_of (take at cs)) + number ≡ k → number < x.layer.width
    → get_or (cell_at x p) number (pos 0) ≡ get_or (row_of t p) k (pos 0)
value_is cs n p at number k x t h was in_range low is k_is within =
    let wide = wide_cells n p cs h.filled in
    let P = λ (y : Filled). length (cell_at y p) ≡ y.layer.width in
    let front : length (row_at (take at cs) p) ≡ total (layers_of (take at cs)) =
    length-row_at p (take at cs) (All-take P at cs wide) in
    let width : length (cell_at (get_or cs at x) p) ≡ x.layer.width =
    wide at x low ∙ ap (λ (y : Filled). y.layer.width) (sym is) in
    ap (λ (y : Filled). get_or (cell_at y p) number (pos 0)) is
    ∙ (sym (get_or-flat_map (λ (c : Filled). cell_at c p) cs at number x (pos 0) low (omega arith))
    ∙ (ap (λ (j : ℕ). get_or (row_at cs p) j (pos 0)) (omega arith)
    ∙ (ap (λ (row : List ℤ). get_or row k (pos 0)) (sym (row_of-table cs n p in_range))
    ∙ ap (λ (y : LayerTable). get_or (row_of y p) k (pos 0)) was)))

-- a number of the row is written
pub value_done : (cs ds : List Filled) (n p at number k : ℕ) (to : ℤ) (x : Filled) → ColumnsHold cs n → p < n
    → at < length cs → x ≡ get_or cs at x
    → total (layers_of (take at cs)) + number ≡ k → number < x.layer.width
    → ds ≡ set cs at (with_cell x p (set (cell_at x p) number to))
    → RowWritten cs ds n p (λ t. set (row_of t p) k to)
value_done cs ds n p at number k to x h in_range low is k_is within e =
    let wide = wide_cells n p cs h.filled in
    let P = λ (z : Filled). length (cell_at z p) ≡ z.layer.width in
    let front : length (row_at (take at cs) p) ≡ total (layers_of (take at cs)) =
    length-row_at p (take at cs) (All-take P at cs wide) in
    let width : length (cell_at (get_or cs at x) p) ≡ x.layer.width =
    wide at x low ∙ ap (λ (z : Filled). z.layer.width) (sym is) in
    let filled : IsFilled n x = subst (IsFilled n) (sym is) (h.filled at x low) in
    let long : p < length x.cells = omega (arith, filled.long) in
    let here : cell_at (with_cell x p (set (cell_at x p) number to)) p ≡ set (cell_at (get_or cs at x) p) number to =
    cell_at_same x p (set (cell_at x p) number to) long ∙ ap (λ (z : Filled). set (cell_at z p) number to) is in
    let layers : layers_of (set cs at (with_cell x p (set (cell_at x p) number to))) ≡ layers_of cs =
    layers-set cs at (with_cell x p (set (cell_at x p) number to)) x (ap (λ (z : Filled). z.layer) is) in
    rw e record {
      holds = record {
        filled = All-set (IsFilled n) cs at (with_cell x p (set (cell_at x p) number to))
            (filled_cell n x p (set (cell_at x p) number to) filled in_range
            (length-set (cell_at x p) number to ∙ filled.wide p)) h.filled;
        layers = rw layers h.layers;
      };
      table = row_written cs (set cs at (with_cell x p (set (cell_at x p) number to))) n p
          (set (row_of (table_of cs n) p) k to) in_range layers
          (row_number p at number to (with_cell x p (set (cell_at x p) number to)) x cs low (omega arith) here
          ∙ (ap (λ (j : ℕ). set (row_at cs p) j to) (omega arith)
          ∙ ap (λ (row : List ℤ). set row k to) (sym (row_of-table cs n p in_range))))
          (λ j other. flat_map-set (λ (c : Filled). cell_at c j) cs at (with_cell x p (set (cell_at x p) number to)) x
          (cell_at_other x p j (set (cell_at x p) number to) other ∙ ap (λ (z : Filled). cell_at z j) is));
    }

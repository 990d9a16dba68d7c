-- Columns, and the rows that they make.
use Rattle.std.proofs.Common.{◌≡◌, ◌≢◌, inl, inr, ℕ, ◌+◌, ◌-◌, ◌≤◌, ◌<◌, ℤ, pos, List, [], ◌∷◌, ◌++◌, length, map, take, drop, get_or, set, replicate, arith, refl, sym, ap, ◌∙◌, suc, zero}
use Rattle.std.specs.Prelude.{All}
use Rattle.std.specs.List.{flat_map, range_with_len}
use Rattle.std.proofs.lemmas.List.{append-nil, map-append, length-set, length-append, length-replicate, get_or-set_same, get_or-set_other, get_or_append_left, get_or-append_right, get_or_past, replicate-append-replicate, take-append-drop, ext_get_or, length-map, length-take-le, get_or-drop, take_all, drop_all}
use Rattle.std.proofs.lemmas.List.Edits.{map_over_more}
use Rattle.std.proofs.lemmas.List.FromFn.{length-map-range_with_len, get_or-map-range_with_len}
use Rattle.std.proofs.lemmas.List.Concat.{flat_map-append}
use Rattle.std.proofs.lemmas.List.Elements.{All-head, All-tail, All-append, All-map, All-take, All-drop, All-from_get_or}
use Rattle.std.proofs.lemmas.List.Sums.{sum_by-cons}
use Rattle.std.proofs.lemmas.Bool.{cases_eq, cases_lt}
use Rattle.cust_data.specs.Layers.{Layer, total, zeros, row_of, with_row, IsTable}
use Rattle.cust_data.specs.Filled.{Filled, cell_at, with_cell, grown}
use Rattle.cust_data.specs.Inside.{layers_of, row_at, rows_of, table_of, IsFilled, ColumnsHold, AreWide}

-- of copies of what is read past the end, each place reads the same
among : {X : Type 0} (n k : ℕ) (x : X) → get_or (replicate n x) k x ≡ x
among zero k x = refl
among (suc n) zero x = refl
among (suc n) (suc k) x = among n k x

-- ---- one column

-- the cell at another place stays
pub cell_at_other : (c : Filled) (p k : ℕ) (cell : List ℤ) → k ≢ p → cell_at (with_cell c p cell) k ≡ cell_at c k
cell_at_other c p k cell other = get_or-set_other c.cells p k cell (zeros c.layer.width) other

-- the cell at the place is the one written
pub cell_at_same : (c : Filled) (p : ℕ) (cell : List ℤ) → p < length c.cells → cell_at (with_cell c p cell) p ≡ cell
cell_at_same c p cell in_range = get_or-set_same c.cells p cell (zeros c.layer.width) in_range

-- a cell as wide as the layer, written at a place, leaves the column filled
pub filled_cell : (places : ℕ) (c : Filled) (p : ℕ) (cell : List ℤ) → IsFilled places c → p < places
    → length cell ≡ c.layer.width → IsFilled places (with_cell c p cell)
filled_cell places c p cell h in_range wide =
    let long : p < length c.cells = omega (arith, h.long) in
    record {
      long = omega (arith, h.long, length-set c.cells p cell);
      wide = λ k. elim (cases_eq k p) [
        | inl same ↦ ap (λ (j : ℕ). length (cell_at (with_cell c p cell) j)) same
            ∙ (ap length (cell_at_same c p cell long) ∙ wide)
        | inr other ↦ ap length (cell_at_other c p k cell other) ∙ h.wide k
      ];
      spare = λ k past. cell_at_other c p k cell (λ same. absurd (omega arith)) ∙ h.spare k past;
    }

-- each cell stays, where zeros count as a cell
pub cell_at-grown : (places : ℕ) (c : Filled) (k : ℕ) → cell_at (grown places c) k ≡ cell_at c k
cell_at-grown places c k =
    elim (cases_lt k (length c.cells)) [
      | inl low ↦ get_or_append_left c.cells (replicate (places - length c.cells) (zeros c.layer.width))
          (zeros c.layer.width) k low
      | inr past ↦ get_or-append_right c.cells (replicate (places - length c.cells) (zeros c.layer.width))
          (length c.cells) k (zeros c.layer.width) refl past
          ∙ (among (places - length c.cells) (k - length c.cells) (zeros c.layer.width)
          ∙ sym (get_or_past c.cells k (zeros c.layer.width) past))
    ]

-- more cells of zeros leave the column filled
pub filled_grown : (n m : ℕ) (c : Filled) → IsFilled n c → IsFilled n (grown m c)
filled_grown n m c h = record {
  long = omega (arith, h.long, length-append c.cells (replicate (m - length c.cells) (zeros c.layer.width)));
  wide = λ k. ap length (cell_at-grown m c k) ∙ h.wide k;
  spare = λ k past. cell_at-grown m c k ∙ h.spare k past;
}

-- and fill it for as many places
pub filled_more : (n m : ℕ) (c : Filled) → IsFilled n c → n ≤ m → IsFilled m (grown m c)
filled_more n m c h more = record {
  long = omega (
    arith,
    h.long,
    length-append c.cells (replicate (m - length c.cells) (zeros c.layer.width)),
    length-replicate (m - length c.cells) (zeros c.layer.width),
  );
  wide = λ k. ap length (cell_at-grown m c k) ∙ h.wide k;
  spare = λ k past. cell_at-grown m c k ∙ h.spare k (omega arith);
}

-- ---- all columns

-- the same change of some columns at the front
abbrev pub changed_to : (Filled → Filled) → ℕ → List Filled → List Filled
changed_to f i cs = map f (take i cs) ++ drop i cs

-- layers stay where each column keeps its own
pub layers-map : (f : Filled → Filled) → ((c : Filled) → (f c).layer ≡ c.layer) → (cs : List Filled)
    → layers_of (map f cs) ≡ layers_of cs
layers-map f same [] = refl
layers-map f same (c ∷ cs) = ap (λ (l : Layer). l ∷ layers_of (map f cs)) (same c)
    ∙ ap (λ (ls : List Layer). c.layer ∷ ls) (layers-map f same cs)

-- the row at a place stays where each column keeps its cell there
pub row_at-map : (f : Filled → Filled) (k : ℕ) → ((c : Filled) → cell_at (f c) k ≡ cell_at c k) → (cs : List Filled)
    → row_at (map f cs) k ≡ row_at cs k
row_at-map f k same [] = refl
row_at-map f k same (c ∷ cs) = ap (λ (cell : List ℤ). cell ++ row_at (map f cs) k) (same c)
    ∙ ap (λ (row : List ℤ). cell_at c k ++ row) (row_at-map f k same cs)

-- the same of a change of some columns
pub layers-changed : (f : Filled → Filled) → ((c : Filled) → (f c).layer ≡ c.layer) → (i : ℕ) (cs : List Filled)
    → layers_of (changed_to f i cs) ≡ layers_of cs
layers-changed f same i cs =
    map-append (λ (c : Filled). c.layer) (map f (take i cs)) (drop i cs)
    ∙ (ap (λ (ls : List Layer). ls ++ layers_of (drop i cs)) (layers-map f same (take i cs))
    ∙ (sym (map-append (λ (c : Filled). c.layer) (take i cs) (drop i cs)) ∙ ap layers_of (take-append-drop i cs)))

pub row_at-changed : (f : Filled → Filled) (k : ℕ) → ((c : Filled) → cell_at (f c) k ≡ cell_at c k)
    → (i : ℕ) (cs : List Filled) → row_at (changed_to f i cs) k ≡ row_at cs k
row_at-changed f k same i cs =
    flat_map-append (λ (c : Filled). cell_at c k) (map f (take i cs)) (drop i cs)
    ∙ (ap (λ (row : List ℤ). row ++ row_at (drop i cs) k) (row_at-map f k same (take i cs))
    ∙ (sym (flat_map-append (λ (c : Filled). cell_at c k) (take i cs) (drop i cs))
    ∙ ap (λ (xs : List Filled). row_at xs k) (take-append-drop i cs)))

-- a fact that the change keeps holds of all columns
pub all_changed : (P : Filled → Type 0) (f : Filled → Filled) → ((c : Filled) → P c → P (f c))
    → (i : ℕ) (cs : List Filled) → All P cs → All P (changed_to f i cs)
all_changed P f keeps i cs h =
    All-append P (map f (take i cs)) (drop i cs)
    (All-map P f (take i cs) (λ k d in_range. keeps (get_or (take i cs) k d) (All-take P i cs h k d in_range)))
    (All-drop P i cs h)

-- the next column is as it was
pub next_is : (f : Filled → Filled) (i : ℕ) (cs ds : List Filled) (d : Filled) → i < length cs → ds ≡ changed_to f i cs
    → get_or ds i d ≡ get_or cs i d
next_is f i cs ds d low e =
    let front : length (map f (take i cs)) ≡ i = length-map (take i cs) f ∙ length-take-le i cs (omega arith) in
    ap (λ (xs : List Filled). get_or xs i d) e
    ∙ (get_or-append_right (map f (take i cs)) (drop i cs) i i d front (omega arith)
    ∙ (get_or-drop i cs (i - i) d ∙ ap (λ (k : ℕ). get_or cs k d) (omega arith)))

-- it is changed
pub changed_more : (f : Filled → Filled) (i : ℕ) (cs ds : List Filled) (x new : Filled) → i < length cs
    → ds ≡ changed_to f i cs → x ≡ get_or ds i x → new ≡ f (get_or ds i x) → set ds i new ≡ changed_to f (i + 1) cs
changed_more f i cs ds x new low e is changed =
    ap (set ds i) (changed ∙ ap f (sym is)) ∙ map_over_more f cs ds i x low e is

-- all columns are changed
pub changed_all : (f : Filled → Filled) (i : ℕ) (cs ds : List Filled) → length cs ≤ i → ds ≡ changed_to f i cs
    → ds ≡ map f cs
changed_all f i cs ds past e = e ∙ rw (take_all i cs past, drop_all i cs past) (append-nil (map f cs))

-- as long as the layers
pub length-row_at : (k : ℕ) (cs : List Filled) → AreWide cs k → length (row_at cs k) ≡ total (layers_of cs)
length-row_at k [] h = refl
length-row_at k (c ∷ cs) h =
    let P = λ (x : Filled). length (cell_at x k) ≡ x.layer.width in
    let first : length (cell_at c k) ≡ c.layer.width = All-head P c cs h in
    omega (
      arith,
      length-append (cell_at c k) (row_at cs k),
      first,
      length-row_at k cs (All-tail P c cs h),
      sum_by-cons (λ (l : Layer). l.width) c.layer (layers_of cs),
    )

-- filled columns have wide cells
pub wide_cells : (places k : ℕ) (cs : List Filled) → All (IsFilled places) cs → AreWide cs k
wide_cells places k cs h j d low = (h j d low).wide k

-- and places that are all there
pub has_place : (places p : ℕ) (cs : List Filled) → All (IsFilled places) cs → p < places
    → All (λ (c : Filled). p < length c.cells) cs
has_place places p cs h in_range j d low = let f = h j d low in omega (arith, f.long)

-- past the places there are zeros
pub row_at_spare : (places k : ℕ) (cs : List Filled) → All (IsFilled places) cs → places ≤ k
    → row_at cs k ≡ zeros (total (layers_of cs))
row_at_spare places k [] h past = refl
row_at_spare places k (c ∷ cs) h past =
    let first = All-head (IsFilled places) c cs h in
    rw (
      first.spare k past,
      row_at_spare places k cs (All-tail (IsFilled places) c cs h) past,
      replicate-append-replicate c.layer.width (total (layers_of cs)) (pos 0),
      sum_by-cons (λ (l : Layer). l.width) c.layer (layers_of cs),
    ) refl

-- ---- tables

-- functions that agree map lists alike
map_agree : {A B : Type 0} (f g : A → B) → ((x : A) → f x ≡ g x) → (xs : List A) → map f xs ≡ map g xs
map_agree f g same [] = refl
map_agree {B = B} f g same (x ∷ xs) = ap (λ (y : B). y ∷ map f xs) (same x)
    ∙ ap (λ (ys : List B). g x ∷ ys) (map_agree f g same xs)

-- as many rows as places
pub length-rows_of : (cs : List Filled) (n : ℕ) → length (rows_of cs n) ≡ n
length-rows_of cs n = length-map-range_with_len (row_at cs) 0 n

-- the row of the table is that of the columns
pub row_of-table : (cs : List Filled) (n p : ℕ) → p < n → row_of (table_of cs n) p ≡ row_at cs p
row_of-table cs n p in_range = get_or-map-range_with_len (row_at cs) 0 n p p [] in_range (omega arith)

-- columns with the same layers and rows make the same table
pub same_table : (cs ds : List Filled) (n : ℕ) → layers_of ds ≡ layers_of cs → ((k : ℕ) → row_at ds k ≡ row_at cs k)
    → table_of ds n ≡ table_of cs n
same_table cs ds n layers rows =
    ap (λ (ls : List Layer). record { layers = ls; rows = rows_of ds n }) layers
    ∙ ap (λ (rs : List (List ℤ)). record { layers = layers_of cs; rows = rs })
    (map_agree (row_at ds) (row_at cs) rows (range_with_len 0 n))

-- columns with the same layers, and the same rows but for one, make the table with that row
pub row_written : (cs ds : List Filled) (n p : ℕ) (row : List ℤ) → p < n → layers_of ds ≡ layers_of cs
    → row_at ds p ≡ row
    → ((k : ℕ) → k ≢ p → row_at ds k ≡ row_at cs k) → table_of ds n ≡ with_row (table_of cs n) p row
row_written cs ds n p row in_range layers here others =
    ap (λ (ls : List Layer). record { layers = ls; rows = rows_of ds n }) layers
    ∙ ap (λ (rs : List (List ℤ)). record { layers = layers_of cs; rows = rs })
    (ext_get_or [] (rows_of ds n) (set (rows_of cs n) p row)
    (length-rows_of ds n ∙ sym (length-set (rows_of cs n) p row ∙ length-rows_of cs n))
    (λ k low.
    let k_low : k < n = omega (arith, length-rows_of ds n) in
    let p_low : p < length (rows_of cs n) = omega (arith, length-rows_of cs n) in
    row_of-table ds n k k_low ∙ elim (cases_eq k p) [
      | inl same ↦ ap (row_at ds) same ∙ (here
          ∙ sym (ap (λ (j : ℕ). get_or (set (rows_of cs n) p row) j []) same
          ∙ get_or-set_same (rows_of cs n) p row [] p_low))
      | inr other ↦ others k other ∙ sym (get_or-set_other (rows_of cs n) p k row [] other ∙ row_of-table cs n k k_low)
    ]))

-- ---- a cell of each column is written

-- the columns, each with a cell of its own at a place
abbrev pub put_all : ℕ → (Filled → List ℤ) → List Filled → List Filled
put_all p cell cs = map (λ (c : Filled). with_cell c p (cell c)) cs

-- the row there is made of these cells
put_here : (n p : ℕ) (cell : Filled → List ℤ) (cs : List Filled) → All (IsFilled n) cs → p < n
    → row_at (put_all p cell cs) p ≡ flat_map cell cs
put_here n p cell [] h in_range = refl
put_here n p cell (c ∷ cs) h in_range =
    let first = All-head (IsFilled n) c cs h in
    let long : p < length c.cells = omega (arith, first.long) in
    rw (cell_at_same c p (cell c) long, put_here n p cell cs (All-tail (IsFilled n) c cs h) in_range) refl

-- the columns are as they should be
pub put_holds : (n p : ℕ) (cell : Filled → List ℤ) (cs : List Filled) → ColumnsHold cs n → p < n
    → ((c : Filled) → IsFilled n c → length (cell c) ≡ c.layer.width) → ColumnsHold (put_all p cell cs) n
put_holds n p cell cs h in_range wide = record {
  filled = All-map (IsFilled n) (λ (c : Filled). with_cell c p (cell c)) cs
      (λ k d low. let f = h.filled k d low in filled_cell n (get_or cs k d) p (cell (get_or cs k d)) f in_range
      (wide (get_or cs k d) f));
  layers = rw (layers-map (λ (c : Filled). with_cell c p (cell c)) (λ c. refl) cs) h.layers;
}

-- and make the table with that row
pub put_table : (n p : ℕ) (cell : Filled → List ℤ) (cs : List Filled) → ColumnsHold cs n → p < n
    → table_of (put_all p cell cs) n ≡ with_row (table_of cs n) p (flat_map cell cs)
put_table n p cell cs h in_range =
    row_written cs (put_all p cell cs) n p (flat_map cell cs) in_range
    (layers-map (λ (c : Filled). with_cell c p (cell c)) (λ c. refl) cs)
    (put_here n p cell cs h.filled in_range)
    (λ k other. row_at-map (λ (c : Filled). with_cell c p (cell c)) k (λ c. cell_at_other c p k (cell c) other) cs)

-- a row of zeros is made of cells of zeros
pub zeros_row : (cs : List Filled) → flat_map (λ (c : Filled). zeros c.layer.width) cs ≡ zeros (total (layers_of cs))
zeros_row [] = refl
zeros_row (c ∷ cs) = rw (
  zeros_row cs,
  replicate-append-replicate c.layer.width (total (layers_of cs)) (pos 0),
  sum_by-cons (λ (l : Layer). l.width) c.layer (layers_of cs),
) refl

-- the table of columns that are as they should be
pub is_table : (cs : List Filled) (n : ℕ) → ColumnsHold cs n → IsTable (table_of cs n)
is_table cs n h = record {
  layers = h.layers;
  fitted = All-from_get_or (λ (row : List ℤ). length row ≡ total (layers_of cs)) (rows_of cs n) []
      (λ k low. let k_low : k < n = omega (arith, length-rows_of cs n) in ap length (row_of-table cs n k k_low)
      ∙ length-row_at k cs (wide_cells n k cs h.filled));
}

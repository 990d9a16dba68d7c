-- What crates above need to know of tables, rows and mixed numbers.
use Rattle.std.proofs.Common.{◌≡◌, ◌≢◌, ℕ, ◌+◌, ◌-◌, ◌≤◌, ◌<◌, ℤ, pos, List, [], ◌∷◌, ◌++◌, length, replicate, arith, refl, ap, ◌∙◌, neg_ℤ}
use Rattle.std.specs.Prelude.{All, ◌≤ℤ◌, ◌<ℤ◌, ◌+ℤ◌}
use Rattle.std.specs.List.{zip}
use Rattle.std.proofs.lemmas.Int.{ints, clamps}
use Rattle.std.proofs.lemmas.List.{length-set, length-append, length-map, length-replicate, get_or-set_same, get_or-set_other, get_or_append_left, get_or-append_right, get_or-replicate, get_or-map}
use Rattle.std.proofs.lemmas.List.Elements.{All-set, All-head, All-tail, All-cons, All-nil}
use Rattle.std.proofs.lemmas.List.Sums.{sum_by_push, sum_by-cons}
use Rattle.std.proofs.lemmas.Slice.Zip.{length-zip}
use Rattle.cust_data.specs.declared.rule.Rule.{Rule}
use Rattle.cust_data.specs.declared.rule.Rule.TheVariants.{Mix, Copy}
use Rattle.cust_data.specs.Layers.{Layer, LayerTable, IsTable, total, zeros, row_of, with_row, with_places, with_layer}
use Rattle.cust_data.specs.Mixing.{IsBetween, mix, mix_by, mix_numbers, mix_row, rules}
use Rattle.cust_data.proofs.Mixes.{share_between, mixed_between}

-- ---- rows

-- each row has a number for each of the layers'
pub length-row_of : (t : LayerTable) (p : ℕ) → IsTable t → p < length t.rows → length (row_of t p) ≡ total t.layers
length-row_of t p h low = h.fitted p [] low

-- a write keeps the number of rows
pub length-with_row : (t : LayerTable) (p : ℕ) (row : List ℤ) → length (with_row t p row).rows ≡ length t.rows
length-with_row t p row = length-set t.rows p row

-- the row written
pub row_of-with_row_same : (t : LayerTable) (p : ℕ) (row : List ℤ) → p < length t.rows
    → row_of (with_row t p row) p ≡ row
row_of-with_row_same t p row low = get_or-set_same t.rows p row [] low

-- the row at another place stays
pub row_of-with_row_other : (t : LayerTable) (p k : ℕ) (row : List ℤ) → k ≢ p → row_of (with_row t p row) k ≡ row_of t k
row_of-with_row_other t p k row other = get_or-set_other t.rows p k row [] other

-- a row as long as the others leaves a table
pub is_table-with_row : (t : LayerTable) (p : ℕ) (row : List ℤ) → IsTable t → length row ≡ total t.layers
    → IsTable (with_row t p row)
is_table-with_row t p row h wide = record {
  layers = h.layers;
  fitted = All-set (λ (r : List ℤ). length r ≡ total t.layers) t.rows p row wide h.fitted;
}

-- ---- places

-- the rows that come are those that were missing
pub length-with_places : (t : LayerTable) (n : ℕ) → length (with_places t n).rows ≡ length t.rows + (n - length t.rows)
length-with_places t n = length-append t.rows (replicate (n - length t.rows) (zeros (total t.layers)))
    ∙ ap (λ (k : ℕ). length t.rows + k) (length-replicate (n - length t.rows) (zeros (total t.layers)))

-- a row that was there stays
pub row_of-with_places : (t : LayerTable) (n p : ℕ) → p < length t.rows → row_of (with_places t n) p ≡ row_of t p
row_of-with_places t n p low = get_or_append_left t.rows (replicate (n - length t.rows) (zeros (total t.layers))) [] p
    low

-- a new row has zeros
pub row_of-with_places_new : (t : LayerTable) (n p : ℕ) → length t.rows ≤ p → p < n
    → row_of (with_places t n) p ≡ zeros (total t.layers)
row_of-with_places_new t n p past low =
    get_or-append_right t.rows (replicate (n - length t.rows) (zeros (total t.layers))) (length t.rows) p [] refl past
    ∙ get_or-replicate (n - length t.rows) (p - length t.rows) (zeros (total t.layers)) [] (omega arith)

-- ---- layers

-- a row is longer by the new layer's numbers
pub total-with_layer : (t : LayerTable) (l : Layer) → total (with_layer t l).layers ≡ total t.layers + l.width
total-with_layer t l = sum_by_push (λ (x : Layer). x.width) t.layers l

-- which are zeros behind the others
pub row_of-with_layer : (t : LayerTable) (l : Layer) (p : ℕ) → p < length t.rows
    → row_of (with_layer t l) p ≡ row_of t p ++ zeros l.width
row_of-with_layer t l p low = get_or-map (λ (row : List ℤ). row ++ zeros l.width) t.rows p [] [] low

-- as many rows as before
pub length-with_layer : (t : LayerTable) (l : Layer) → length (with_layer t l).rows ≡ length t.rows
length-with_layer t l = length-map t.rows (λ (row : List ℤ). row ++ zeros l.width)

-- ---- mixed numbers

-- each number of a row has a rule
length-rules : (layers : List Layer) → length (rules layers) ≡ total layers
length-rules [] = refl
length-rules (l ∷ layers) =
    omega (
      arith,
      length-append (replicate l.width l.rule) (rules layers),
      length-replicate l.width l.rule,
      length-rules layers,
      sum_by-cons (λ (x : Layer). x.width) l layers,
    )

-- mixed rows are as long as the rows
pub length-mix_row : (layers : List Layer) (a b : List ℤ) (num den : ℤ) → length a ≡ total layers
    → length b ≡ total layers → length (mix_row layers a b num den) ≡ total layers
length-mix_row layers a b num den wide_a wide_b =
    length-map (zip (rules layers) (zip a b)) (λ ((rule, (x, y)) : Rule × (ℤ × ℤ)). mix_by rule x y num den)
    ∙ omega (arith, length-zip (rules layers) (zip a b), length-zip a b, length-rules layers, wide_a, wide_b)

-- a mix lies between the two numbers
pub mix_between : (a b num den : ℤ) → pos 0 ≤ℤ num → num ≤ℤ den → pos 0 <ℤ den → IsBetween a b (mix a b num den)
mix_between a b num den from until parts = mixed_between a b _ (share_between (b +ℤ neg_ℤ a) num den from until parts)

-- and so within all bounds that both lie within, by either rule
pub mix_by_within : (low high : ℤ) (rule : Rule) (a b num den : ℤ) → pos 0 ≤ℤ num → num ≤ℤ den → pos 0 <ℤ den
    → low ≤ℤ a → a ≤ℤ high → low ≤ℤ b → b ≤ℤ high → (low ≤ℤ mix_by rule a b num den) × (mix_by rule a b num den ≤ℤ high)
mix_by_within low high Mix a b num den from until parts low_a high_a low_b high_b =
    let between = mix_between a b num den from until parts in
    (omega (arith, ints, clamps, between.low, between.high), omega (arith, ints, clamps, between.low, between.high))
mix_by_within low high Copy a b num den from until parts low_a high_a low_b high_b = (low_a, high_a)

-- each number of a row lies within two bounds
abbrev pub LiesWithin : ℤ → ℤ → List ℤ → Type 0
LiesWithin low high row = All (λ (v : ℤ). (low ≤ℤ v) × (v ≤ℤ high)) row

within_numbers : (low high num den : ℤ) → pos 0 ≤ℤ num → num ≤ℤ den → pos 0 <ℤ den → (rs : List Rule) (a b : List ℤ)
    → LiesWithin low high a → LiesWithin low high b → LiesWithin low high (mix_numbers rs a b num den)
within_numbers low high num den from until parts [] a b in_a in_b = All-nil (λ (v : ℤ). (low ≤ℤ v) × (v ≤ℤ high))
within_numbers low high num den from until parts (rule ∷ rs) [] b in_a in_b =
    All-nil (λ (v : ℤ). (low ≤ℤ v) × (v ≤ℤ high))
within_numbers low high num den from until parts (rule ∷ rs) (x ∷ a) [] in_a in_b =
    All-nil (λ (v : ℤ). (low ≤ℤ v) × (v ≤ℤ high))
within_numbers low high num den from until parts (rule ∷ rs) (x ∷ a) (y ∷ b) in_a in_b =
    let P = λ (v : ℤ). (low ≤ℤ v) × (v ≤ℤ high) in
    let first_x : (low ≤ℤ x) × (x ≤ℤ high) = All-head P x a in_a in
    let first_y : (low ≤ℤ y) × (y ≤ℤ high) = All-head P y b in_b in
    All-cons P (mix_by rule x y num den) (mix_numbers rs a b num den)
    (mix_by_within low high rule x y num den from until parts first_x.0 first_x.1 first_y.0 first_y.1)
    (within_numbers low high num den from until parts rs a b (All-tail P x a in_a) (All-tail P y b in_b))

-- mixed rows stay within the bounds of both rows
pub mix_row_within : (low high : ℤ) (layers : List Layer) (a b : List ℤ) (num den : ℤ) → pos 0 ≤ℤ num → num ≤ℤ den
    → pos 0 <ℤ den
    → LiesWithin low high a → LiesWithin low high b → LiesWithin low high (mix_row layers a b num den)
mix_row_within low high layers a b num den from until parts in_a in_b =
    within_numbers low high num den from until parts (rules layers) a b in_a in_b

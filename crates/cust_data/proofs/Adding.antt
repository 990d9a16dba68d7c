-- What one layer more leaves.
use Rattle.std.proofs.Common.{◌≡◌, ℕ, ◌-◌, ◌<◌, Bool, true, false, cond, Some, None, ℤ, pos, List, [], ◌∷◌, ◌++◌, length, map, get_or, arith, refl, ap, ◌∙◌, inl, inr}
use Rattle.std.specs.Prelude.{IsTrue, not, nat_le, is_some, position}
use Rattle.std.specs.List.{range_with_len, position_or_len}
use Rattle.std.proofs.lemmas.Bool.{cases_lt, lt-ltb}
use Rattle.std.proofs.lemmas.Bool.Decides.{nat_tests}
use Rattle.std.proofs.lemmas.List.{length-append, length-replicate, map-append, append-nil}
use Rattle.std.proofs.lemmas.List.Concat.{flat_map-append}
use Rattle.std.proofs.lemmas.List.Elements.{All-push}
use Rattle.std.proofs.lemmas.List.Quantifiers.{all_pairs_push}
use Rattle.std.proofs.lemmas.List.Sums.{fails_before_first}
use Rattle.cust_data.specs.declared.fault.LayerFault.TheVariants.{LayerExists, TooManyLayers, BadName, BadWidth}
use Rattle.cust_data.specs.Layers.{Layer, LayerTable, AreLayers, zeros, same_name, find_layer, is_layer_name, is_width, with_layer}
use Rattle.cust_data.specs.Faults.{refusal_of}
use Rattle.cust_data.specs.Filled.{Filled, cell_at, grown}
use Rattle.cust_data.specs.Inside.{layers_of, row_at, rows_of, table_of, IsFilled, ColumnsHold}
use Rattle.cust_data.proofs.Columns.{cell_at-grown}
use Rattle.cust_data.proofs.Growing.{TableSaid, table_said}

-- none of four causes holds
no_cause : (a b c d : Bool) → cond (not a) (Some BadName) (cond (not b) (Some BadWidth)
    (cond c (Some LayerExists) (cond d (Some TooManyLayers) None))) ≡ None
    → (a ≡ true) × (b ≡ true) × (c ≡ false) × (d ≡ false)
no_cause true true false false e = (refl, refl, refl, refl)
no_cause true true false true e = cc
no_cause true true true d e = cc
no_cause true false c d e = cc
no_cause false b c d e = cc

-- what a layer that isn't refused has
pub record IsAllowed (layers : List Layer) (name : List ℕ) (width : ℕ) : Type 0 where
  pub name_ok : IsTrue (is_layer_name name)
  pub width_ok : IsTrue (is_width width)
  pub fresh : is_some (find_layer layers name) ≡ false
  pub few : length layers < 16

pub is_allowed : (layers : List Layer) (name : List ℕ) (width : ℕ) → refusal_of layers name width ≡ None
    → IsAllowed layers name width
is_allowed layers name width e =
    let none = no_cause (is_layer_name name) (is_width width) (is_some (find_layer layers name))
    (nat_le 16 (length layers)) e in
    let many : nat_le 16 (length layers) ≡ false = none.3 in
    record { name_ok = none.0; width_ok = none.1; fresh = none.2; few = grind (arith, nat_tests) }

-- where none passes, each fails
none_passes : {A : Type 0} (p : A → Bool) (xs : List A) → is_some (position p xs) ≡ false → (k : ℕ) (d : A)
    → k < length xs → p (get_or xs k d) ≡ false
none_passes p xs e k d low =
    elim (cases_lt (position_or_len p xs) (length xs)) [
      | inl there ↦ let found : is_some (position p xs) ≡ true =
          rw (lt-ltb (position_or_len p xs) (length xs) there) refl in cc
      | inr past ↦ fails_before_first p xs k d (omega arith)
    ]

-- the layers are allowed
layers_push : (layers : List Layer) (l : Layer) → AreLayers layers → IsAllowed layers l.name l.width
    → AreLayers (layers ++ l ∷ [])
layers_push layers l h new = record {
  few = omega (arith, length-append layers (l ∷ []), new.few);
  named = All-push (λ (x : Layer). IsTrue (is_layer_name x.name)) layers l h.named new.name_ok;
  distinct = all_pairs_push (λ (x y : Layer). same_name x.name y.name ≡ false) layers l h.distinct
      (none_passes (λ (x : Layer). same_name x.name l.name) layers new.fresh);
  widths = All-push (λ (x : Layer). IsTrue (is_width x.width)) layers l h.widths new.width_ok;
}

-- a new column of zeros
abbrev pub new_column : ℕ → Layer → Filled
new_column places l = grown places (record { layer = l; cells = [] })

new_filled : (n : ℕ) (l : Layer) → IsFilled n (new_column n l)
new_filled n l = record {
  long = omega (arith, length-replicate (n - 0) (zeros l.width));
  wide = λ k. ap length (cell_at-grown n (record { layer = l; cells = [] }) k) ∙ length-replicate l.width (pos 0);
  spare = λ k past. cell_at-grown n (record { layer = l; cells = [] }) k;
}

-- a column behind the others
layers_of-push : (cs : List Filled) (c : Filled) → layers_of (cs ++ c ∷ []) ≡ layers_of cs ++ c.layer ∷ []
layers_of-push cs c = map-append (λ (x : Filled). x.layer) cs (c ∷ [])

row_at-push : (cs : List Filled) (c : Filled) (k : ℕ) → row_at (cs ++ c ∷ []) k ≡ row_at cs k ++ cell_at c k
row_at-push cs c k = flat_map-append (λ (x : Filled). cell_at x k) cs (c ∷ [])
    ∙ ap (λ (xs : List ℤ). row_at cs k ++ xs) (append-nil (cell_at c k))

-- rows with zeros behind
rows_push : (cs : List Filled) (n : ℕ) (l : Layer) (ks : List ℕ)
    → map (row_at (cs ++ new_column n l ∷ [])) ks ≡ map (λ (row : List ℤ). row ++ zeros l.width) (map (row_at cs) ks)
rows_push cs n l [] = refl
rows_push cs n l (k ∷ ks) =
    ap (λ (row : List ℤ). row ∷ map (row_at (cs ++ new_column n l ∷ [])) ks)
    (row_at-push cs (new_column n l) k ∙ ap (λ (cell : List ℤ). row_at cs k ++ cell)
    (cell_at-grown n (record { layer = l; cells = [] }) k))
    ∙ ap (λ (rs : List (List ℤ)). (row_at cs k ++ zeros l.width) ∷ rs) (rows_push cs n l ks)

pub added_holds : (cs : List Filled) (n : ℕ) (l : Layer) → ColumnsHold cs n → IsAllowed (layers_of cs) l.name l.width
    → ColumnsHold (cs ++ new_column n l ∷ []) n
added_holds cs n l h new = record {
  filled = All-push (IsFilled n) cs (new_column n l) h.filled (new_filled n l);
  layers = rw (layers_of-push cs (new_column n l)) (layers_push (layers_of cs) l h.layers new);
}

pub added_table : (cs : List Filled) (n : ℕ) (l : Layer)
    → table_of (cs ++ new_column n l ∷ []) n ≡ with_layer (table_of cs n) l
added_table cs n l =
    ap (λ (ls : List Layer). record { layers = ls; rows = rows_of (cs ++ new_column n l ∷ []) n })
    (layers_of-push cs (new_column n l))
    ∙ ap (λ (rs : List (List ℤ)). record { layers = layers_of cs ++ l ∷ []; rows = rs })
    (rows_push cs n l (range_with_len 0 n))

-- what a call that adds a column says of the table
pub added_said : (xs cs : List Filled) (n : ℕ) (c : Filled) (l : Layer) (t : LayerTable) → xs ≡ cs ++ c ∷ []
    → c ≡ new_column n l → ColumnsHold cs n → table_of cs n ≡ t
    → refusal_of t.layers l.name l.width ≡ None → TableSaid xs n (with_layer t l)
added_said xs cs n c l t e column h was allowed =
    let fresh : refusal_of (layers_of cs) l.name l.width ≡ None =
    ap (λ (x : LayerTable). refusal_of x.layers l.name l.width) was ∙ allowed in
    table_said xs (cs ++ new_column n l ∷ []) n (with_layer t l) (e ∙ ap (λ (y : Filled). cs ++ y ∷ []) column)
    (added_holds cs n l h (is_allowed (layers_of cs) l.name l.width fresh))
    (added_table cs n l ∙ ap (λ (x : LayerTable). with_layer x l) was)

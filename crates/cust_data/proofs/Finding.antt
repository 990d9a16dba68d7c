-- Layers by their place, and by their name.
use Rattle.std.proofs.Common.{◌≡◌, ℕ, ◌+◌, ◌≤◌, ◌<◌, Bool, true, false, cond, Some, None, List, [], ◌∷◌, length, map, get_or, arith, refl, sym, ap, subst, ◌∙◌, suc, zero}
use Rattle.std.specs.Prelude.{slice_get, not, position, All, IsTrue}
use Rattle.std.specs.List.{position_or_len}
use Rattle.std.proofs.lemmas.List.{length-map, get_or-map}
use Rattle.std.proofs.lemmas.List.Sums.{position_or_len_is}
use Rattle.std.proofs.lemmas.Bool.{lt-ltb, le-ltb}
use Rattle.cust_data.specs.Layers.{Layer, LayerTable, AreLayers, is_width}
use Rattle.cust_data.specs.Filled.{Filled}
use Rattle.cust_data.specs.Inside.{layers_of, table_of}
use Rattle.cust_data.proofs.Widths.{width_bounds}

-- the layer of a column that was read
layer_here : (cs : List Filled) (k : ℕ) (x : Filled) → k < length cs → x ≡ get_or cs k x
    → slice_get (layers_of cs) k ≡ Some x.layer
layer_here [] k x low is = absurd (omega arith)
layer_here (c ∷ cs) zero x low is = ap (λ (y : Filled). Some y.layer) (sym is)
layer_here (c ∷ cs) (suc k) x low is = layer_here cs k x (omega arith) is

-- as many columns as layers
pub columns_is : (cs : List Filled) (n : ℕ) (t : LayerTable) → table_of cs n ≡ t → length t.layers ≡ length cs
columns_is cs n t was = ap (λ (x : LayerTable). length x.layers) (sym was) ∙ length-map cs (λ (c : Filled). c.layer)

-- it is the layer of the table
pub layer_said : (cs : List Filled) (n k : ℕ) (x : Filled) (t : LayerTable) → table_of cs n ≡ t → k < length t.layers
    → x ≡ get_or cs k x → slice_get t.layers k ≡ Some x.layer
layer_said cs n k x t was low is = ap (λ (y : LayerTable). slice_get y.layers k) (sym was)
    ∙ layer_here cs k x (omega (arith, columns_is cs n t was)) is

-- the first that passes a test stands where the first stands whose image passes
position_or_len-map : {A B : Type 0} (p : B → Bool) (f : A → B) (xs : List A)
    → position_or_len p (map f xs) ≡ position_or_len (λ x. p (f x)) xs
position_or_len-map p f [] = refl
position_or_len-map p f (x ∷ xs) = ap (λ (n : ℕ). cond (not (p (f x))) (1 + n) 0) (position_or_len-map p f xs)

pub position-map : {A B : Type 0} (p : B → Bool) (f : A → B) (xs : List A)
    → position p (map f xs) ≡ position (λ x. p (f x)) xs
position-map p f xs = rw (position_or_len-map p f xs, length-map xs f) refl

-- at most sixteen columns
pub few : (cs : List Filled) → AreLayers (layers_of cs) → length cs ≤ 16
few cs h = omega (arith, h.few, length-map cs (λ (c : Filled). c.layer))

-- each of at most four numbers
pub narrow : (cs : List Filled) → AreLayers (layers_of cs) → All (λ (c : Filled). c.layer.width ≤ 4) cs
narrow cs h k d low =
    let here : get_or (layers_of cs) k d.layer ≡ (get_or cs k d).layer =
    get_or-map (λ (c : Filled). c.layer) cs k d d.layer low in
    let P = λ (l : Layer). IsTrue (is_width l.width) in
    let in_layers : k < length (layers_of cs) = omega (arith, length-map cs (λ (c : Filled). c.layer)) in
    (width_bounds (get_or cs k d).layer.width (subst P here (h.widths k d.layer in_layers))).1

-- the first that passes is at a place where one passes and none before it does
pub position_at : {A : Type 0} (p : A → Bool) (xs : List A) (k : ℕ) (d : A) → k < length xs
    → ((j : ℕ) → j < k → p (get_or xs j d) ≡ false) → p (get_or xs k d) ≡ true → position p xs ≡ Some k
position_at p xs k d low before here =
    let first : position_or_len p xs ≡ k = position_or_len_is p xs k d (omega arith) before (λ in_range. here) in
    rw (first, lt-ltb k (length xs) low) refl

-- nothing passes
pub position_none : {A : Type 0} (p : A → Bool) (xs : List A)
    → ((j : ℕ) (d : A) → j < length xs → p (get_or xs j d) ≡ false) → position p xs ≡ None
position_none p [] fails = refl
position_none p (x ∷ xs) fails =
    let first : position_or_len p (x ∷ xs) ≡ length (x ∷ xs) =
    position_or_len_is p (x ∷ xs) (length (x ∷ xs)) x (omega arith) (λ j low. fails j x low)
    (λ past. absurd (omega arith)) in
    rw (first, le-ltb (length (x ∷ xs)) (length (x ∷ xs)) (omega arith)) refl

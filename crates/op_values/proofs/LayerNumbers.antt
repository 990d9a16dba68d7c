-- Rows with other numbers of one layer: as long, in range, and the numbers of the other layers as before.
use Rattle.std.proofs.Common.{◌≡◌, ◌≢◌, ℕ, zero, suc, ◌+◌, ◌-◌, ◌⊎◌, ◌<◌, ◌≤◌, ℤ, pos, Bool, true, List, [], ◌∷◌, ◌++◌}
use Rattle.std.proofs.Common.{length, take, drop, get_or, refl, ap, ◌∙◌, inl, inr, arith, Option, Some, None, All, subst}
use Rattle.std.specs.List.{list_all, position}
use Rattle.std.specs.Option.{option_map}
use Rattle.std.proofs.lemmas.Bool.{and_parts, and_from, cases_eq, cases_order}
use Rattle.std.proofs.lemmas.List.{length-take-le, get_or-take, get_or-drop, get_or_append_left}
use Rattle.std.proofs.lemmas.List.{get_or-append_right}
use Rattle.std.proofs.lemmas.List.Folds.{list_all-append}
use Rattle.std.proofs.lemmas.List.Quantifiers.{position-Some}
use Rattle.std.proofs.lemmas.List.Sums.{sum_by-cons}
use Rattle.cust_data.specs.Layers.{Layer, total}
use Rattle.mesh_model.specs.Table.{allows}
use Rattle.mesh_model.specs.Values.{offset, same_layer, number_in}
use Rattle.op_values.specs.Putting.{put_from}

-- ---- WHERE LAYERS BEGIN

pub layer_within : (ls : List Layer) (k : ℕ) (d : Layer) → k < length ls
    → offset ls k + (get_or ls k d).width ≤ total ls
layer_within [] k d less = absurd (omega arith)
layer_within (l ∷ ls) zero d less = omega (arith, sum_by-cons (λ (m : Layer). m.width) l ls)
layer_within (l ∷ ls) (suc k) d less =
    let rest = layer_within ls k d (omega arith) in
    omega (arith, rest, sum_by-cons (λ (m : Layer). m.width) l ls, sum_by-cons (λ (m : Layer). m.width) l (take k ls))

-- a layer ends before the next ones begin
pub layer_before : (ls : List Layer) (j k : ℕ) (d : Layer) → j < k → k < length ls
    → offset ls j + (get_or ls j d).width ≤ offset ls k
layer_before [] j k d before less = absurd (omega arith)
layer_before (l ∷ ls) j zero d before less = absurd (omega arith)
layer_before (l ∷ ls) zero (suc k) d before less = omega (arith, sum_by-cons (λ (m : Layer). m.width) l (take k ls))
layer_before (l ∷ ls) (suc j) (suc k) d before less =
    let rest = layer_before ls j k d (omega arith) (omega arith) in
    omega (
      arith,
      rest,
      sum_by-cons (λ (m : Layer). m.width) l (take j ls),
      sum_by-cons (λ (m : Layer). m.width) l (take k ls),
    )

-- ---- NUMBERS OF A CHANGED ROW

first_kept : {X : Type 0} (p : X → Bool) (n : ℕ) (xs : List X) → list_all p xs ≡ true → list_all p (take n xs) ≡ true
first_kept p zero xs h = refl
first_kept p (suc n) [] h = refl
first_kept p (suc n) (x ∷ xs) h = let both = and_parts (p x) (list_all p xs) h in
    and_from (p x) (list_all p (take n xs)) both.0 (first_kept p n xs both.1)

last_kept : {X : Type 0} (p : X → Bool) (n : ℕ) (xs : List X) → list_all p xs ≡ true → list_all p (drop n xs) ≡ true
last_kept p zero xs h = h
last_kept p (suc n) [] h = refl
last_kept p (suc n) (x ∷ xs) h = last_kept p n xs (and_parts (p x) (list_all p xs) h).1

pub put_from-all : (p : ℤ → Bool) (from : ℕ) (numbers row : List ℤ) → list_all p numbers ≡ true → list_all p row ≡ true
    → list_all p (put_from from numbers row) ≡ true
put_from-all p from numbers row new old =
    let rest = drop (from + length numbers) row in
    list_all-append p (take from row) (numbers ++ rest)
    ∙ and_from (list_all p (take from row)) (list_all p (numbers ++ rest)) (first_kept p from row old)
    (list_all-append p numbers rest
    ∙ and_from (list_all p numbers) (list_all p rest) new (last_kept p (from + length numbers) row old))

before_put : (from : ℕ) (numbers row : List ℤ) (n : ℕ) → from + length numbers ≤ length row → n < from
    → get_or (put_from from numbers row) n (pos 0) ≡ get_or row n (pos 0)
before_put from numbers row n fits before =
    let long : length (take from row) ≡ from = length-take-le from row (omega arith) in
    get_or_append_left (take from row) _ (pos 0) n (omega arith) ∙ get_or-take from row n (pos 0) before

at_put : (from : ℕ) (numbers row : List ℤ) → from + length numbers ≤ length row → 0 < length numbers
    → get_or (put_from from numbers row) from (pos 0) ≡ get_or numbers 0 (pos 0)
at_put from numbers row fits some =
    let long : length (take from row) ≡ from = length-take-le from row (omega arith) in
    let none : from - from ≡ 0 = omega arith in
    get_or-append_right (take from row) (numbers ++ drop (from + length numbers) row) from from (pos 0) long
    (omega arith)
    ∙ ap (λ (k : ℕ). get_or (numbers ++ drop (from + length numbers) row) k (pos 0)) none
    ∙ get_or_append_left numbers (drop (from + length numbers) row) (pos 0) 0 some

after_put : (from : ℕ) (numbers row : List ℤ) (n : ℕ) → from + length numbers ≤ length row
    → from + length numbers ≤ n → get_or (put_from from numbers row) n (pos 0) ≡ get_or row n (pos 0)
after_put from numbers row n fits after =
    let long : length (take from row) ≡ from = length-take-le from row (omega arith) in
    let back : (from + length numbers) + ((n - from) - length numbers) ≡ n = omega arith in
    get_or-append_right (take from row) (numbers ++ drop (from + length numbers) row) from n (pos 0) long (omega arith)
    ∙ get_or-append_right numbers (drop (from + length numbers) row) (length numbers) (n - from) (pos 0) refl
    (omega arith)
    ∙ get_or-drop (from + length numbers) row ((n - from) - length numbers) (pos 0)
    ∙ ap (λ (k : ℕ). get_or row k (pos 0)) back

-- ---- THE NUMBER OF A LAYER

-- what numbers of the k-th layer are put into rows
pub record AreFor (layers : List Layer) (k : ℕ) (d : Layer) (numbers : List ℤ) : Type 0 where
  pub within : k < length layers
  pub wide : length numbers ≡ (get_or layers k d).width
  pub some : All (λ (l : Layer). 0 < l.width) layers

pub put-fits : (layers : List Layer) (k : ℕ) (d : Layer) (numbers : List ℤ) → AreFor layers k d numbers
    → offset layers k + length numbers ≤ total layers
put-fits layers k d numbers are = let wide = are.wide in omega (arith, layer_within layers k d are.within)

pub other_number : (layers : List Layer) (j k : ℕ) (d : Layer) (numbers row : List ℤ) → AreFor layers k d numbers
    → length row ≡ total layers → j < length layers → j ≢ k
    → get_or (put_from (offset layers k) numbers row) (offset layers j) (pos 0) ≡ get_or row (offset layers j) (pos 0)
other_number layers j k d numbers row are long less apart =
    let wide = are.wide in
    let fits : offset layers k + length numbers ≤ length row = omega (arith, put-fits layers k d numbers are) in
    let some : 0 < (get_or layers j d).width = are.some j d less in
    by_order (cases_order j k)
  where
    by_order : (j ≡ k) ⊎ ((j < k) ⊎ (k < j))
        → get_or (put_from (offset layers k) numbers row) (offset layers j) (pos 0)
        ≡ get_or row (offset layers j) (pos 0)
    by_order (inl same) = absurd (apart same)
    by_order (inr (inl before)) = before_put (offset layers k) numbers row (offset layers j)
        (let wide = are.wide in omega (arith, put-fits layers k d numbers are))
        (let some = are.some j d less in omega (arith, layer_before layers j k d before are.within))
    by_order (inr (inr after)) = after_put (offset layers k) numbers row (offset layers j)
        (let wide = are.wide in omega (arith, put-fits layers k d numbers are))
        (let wide = are.wide in omega (arith, layer_before layers k j d after less))

pub allows-put : (test : ℤ → Bool) (layers : List Layer) (l : Layer) (k : ℕ) (d : Layer) (numbers row : List ℤ)
    → AreFor layers k d numbers → length row ≡ total layers
    → (same_layer l (get_or layers k d) ≡ true → test (get_or numbers 0 (pos 0)) ≡ true)
    → allows test (number_in layers l row) ≡ true
    → allows test (number_in layers l (put_from (offset layers k) numbers row)) ≡ true
allows-put test layers l k d numbers row are long new old = of (position (same_layer l) layers) refl old
  where
    here : get_or (put_from (offset layers k) numbers row) (offset layers k) (pos 0) ≡ get_or numbers 0 (pos 0)
    here = at_put (offset layers k) numbers row (omega (arith, put-fits layers k d numbers are))
        (let wide = are.wide in let some = are.some k d are.within in omega arith)

    of : (o : Option ℕ) → position (same_layer l) layers ≡ o
        → allows test (option_map (λ (j : ℕ). get_or row (offset layers j) (pos 0)) o) ≡ true
        → allows test
        (option_map (λ (j : ℕ). get_or (put_from (offset layers k) numbers row) (offset layers j) (pos 0)) o)
        ≡ true
    of None is was = refl
    of (Some j) is was = let found = position-Some (same_layer l) layers j d is in elim (cases_eq j k) [
      | inl same ↦ ap (λ (i : ℕ). test (get_or (put_from (offset layers k) numbers row) (offset layers i) (pos 0))) same
          ∙ ap test here ∙ new (subst (λ (i : ℕ). same_layer l (get_or layers i d) ≡ true) same found.1)
      | inr apart ↦ ap test (other_number layers j k d numbers row are long found.0 apart) ∙ was
    ]

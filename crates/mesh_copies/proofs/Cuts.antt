-- The rank of a number in a rising list is the place where it is cut, and the copies' names rise.
use Rattle.std.proofs.Common.{◌≡◌, ℕ, zero, suc, ◌+◌, ◌<◌, ◌≤◌, true, false, cond, ltb, nat_lt, List, [], ◌∷◌, length}
use Rattle.std.proofs.Common.{get_or, map, refl, sym, ap, ◌∙◌, arith}
use Rattle.std.specs.List.{list_all, range_with_len}
use Rattle.std.specs.List.Sorted.{IsNonDecreasingBy}
use Rattle.std.proofs.lemmas.Bool.{and_parts, and_from, lt-ltb, ltb-true}
use Rattle.std.proofs.lemmas.List.{length-map, get_or-map, ext_get_or}
use Rattle.std.proofs.lemmas.List.FromFn.{get_or-map-range_with_len, length-map-range_with_len}
use Rattle.std.proofs.lemmas.List.Sums.{sum_by-cons}
use Rattle.mesh_model.specs.Naming.{rank, fresh, is_rising}
use Rattle.mesh_model.proofs.Lists.{list_all-All}
use Rattle.mesh_model.proofs.Ranks.{rank-get_or}

rank-cons : (m : ℕ) (ms : List ℕ) (x : ℕ) → rank (m ∷ ms) x ≡ cond (nat_lt m x) 1 0 + rank ms x
rank-cons m ms x = sum_by-cons (λ (y : ℕ). cond (nat_lt y x) 1 0) m ms

none_below : {N : Type 0} (num : N → ℕ) (xs : List N) (n : ℕ)
    → ((k : ℕ) (d : N) → k < length xs → ltb (num (get_or xs k d)) n ≡ false) → rank (map num xs) n ≡ 0
none_below num [] n h = refl
none_below num (x ∷ xs) n h = rank-cons (num x) (map num xs) n
    ∙ rw (h 0 x (omega arith), none_below num xs n (λ k d less. h (suc k) d (omega arith))) refl

-- the place of the cut is the rank
pub cut_rank : {N : Type 0} (num : N → ℕ) (xs : List N) (n i : ℕ) → i ≤ length xs
    → ((k : ℕ) (d : N) → k < i → ltb (num (get_or xs k d)) n ≡ true)
    → ((k : ℕ) (d : N) → i ≤ k → k < length xs → ltb (num (get_or xs k d)) n ≡ false) → rank (map num xs) n ≡ i
cut_rank num xs n zero le before after = none_below num xs n (λ k d less. after k d (omega arith) less)
cut_rank num [] n (suc i) le before after = absurd (omega arith)
cut_rank num (x ∷ xs) n (suc i) le before after =
    rank-cons (num x) (map num xs) n
    ∙ rw (
      before 0 x (omega arith),
      cut_rank num xs n i (omega arith) (λ k d less. before (suc k) d (omega arith))
          (λ k d low less. after (suc k) d (omega arith) (omega arith)),
    ) (omega arith)

-- numbers that rise don't fall
pub rises : {N : Type 0} (num : N → ℕ) (xs : List N) → is_rising (map num xs) ≡ true → IsNonDecreasingBy num xs
rises num [] h i j d le less = absurd (omega arith)
rises num (x ∷ xs) h zero zero d le less = omega arith
rises num (x ∷ xs) h zero (suc j) d le less =
    let above = list_all-All (nat_lt (num x)) (map num xs)
    (and_parts (list_all (nat_lt (num x)) (map num xs)) (is_rising (map num xs)) h).0 in
    let here = above j (num d) (omega (arith, length-map xs num)) in
    let is = get_or-map num xs j d (num d) (omega arith) in
    let more : num x < get_or (map num xs) j (num d) = ltb-true (num x) (get_or (map num xs) j (num d)) here in
    omega arith
rises num (x ∷ xs) h (suc i) zero d le less = absurd (omega arith)
rises num (x ∷ xs) h (suc i) (suc j) d le less =
    rises num xs (and_parts (list_all (nat_lt (num x)) (map num xs)) (is_rising (map num xs)) h).1 i j d (omega arith)
    (omega arith)

-- ---- THE NAMES OF COPIES

-- a rising list's fresh names follow one another
pub fresh-all : {N : Type 0} (num : N → ℕ) (name : ℕ → N) (first : ℕ) (xs : List N) → is_rising (map num xs) ≡ true
    → map name (range_with_len first (length xs)) ≡ map (λ x. name (fresh first 0 (map num xs) (num x))) xs
fresh-all {N = N} num name first xs rising =
    let long = length-map-range_with_len name first (length xs) in
    let other = length-map xs (λ x. name (fresh first 0 (map num xs) (num x))) in
    ext_get_or (name 0) (map name (range_with_len first (length xs)))
    (map (λ x. name (fresh first 0 (map num xs) (num x))) xs) (long ∙ sym other)
    (λ i less. let within : i < length xs = omega arith in
    get_or-map-range_with_len name first (length xs) i (first + i) (name 0) within refl ∙ sym (at_place i within))
  where
    at_place : (i : ℕ) → i < length xs
        → get_or (map (λ x. name (fresh first 0 (map num xs) (num x))) xs) i (name 0) ≡ name (first + i)
    at_place i within =
        let d = name 0 in
        let x = get_or xs i d in
        let inside : i < length (map num xs) = omega (arith, length-map xs num) in
        get_or-map (λ y. name (fresh first 0 (map num xs) (num y))) xs i d d within
        ∙ ap (λ (k : ℕ). name (first + 0 + k))
        (ap (rank (map num xs)) (sym (get_or-map num xs i d 0 within)) ∙ rank-get_or (map num xs) i rising inside)
        ∙ ap name (omega arith)

above-range : (m first count : ℕ) → m < first → list_all (nat_lt m) (range_with_len first count) ≡ true
above-range m first zero less = refl
above-range m first (suc count) less =
    and_from (nat_lt m first) (list_all (nat_lt m) (range_with_len (first + 1) count)) (lt-ltb m first less)
    (above-range m (first + 1) count (omega arith))

pub rising-range : (first count : ℕ) → is_rising (range_with_len first count) ≡ true
rising-range first zero = refl
rising-range first (suc count) =
    and_from (list_all (nat_lt first) (range_with_len (first + 1) count)) (is_rising (range_with_len (first + 1) count))
    (above-range first (first + 1) count (omega arith)) (rising-range (first + 1) count)

-- the numbers of names are the numbers
pub numbers-named : {N : Type 0} (num : N → ℕ) (name : ℕ → N) → ((n : ℕ) → num (name n) ≡ n) → (ns : List ℕ)
    → map num (map name ns) ≡ ns
numbers-named num name same [] = refl
numbers-named num name same (n ∷ ns) = rw (same n, numbers-named num name same ns) refl

-- the fresh names of a rising list rise
pub rising-fresh : {N : Type 0} (num : N → ℕ) (name : ℕ → N) → ((n : ℕ) → num (name n) ≡ n) → (first : ℕ) (xs : List N)
    → is_rising (map num xs) ≡ true
    → is_rising (map num (map (λ x. name (fresh first 0 (map num xs) (num x))) xs)) ≡ true
rising-fresh num name same first xs rising =
    ap is_rising (ap (map num) (sym (fresh-all num name first xs rising))
    ∙ numbers-named num name same (range_with_len first (length xs))) ∙ rising-range first (length xs)

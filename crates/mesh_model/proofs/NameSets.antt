-- Sets of names of any kind: filters of all names below a count.
use Rattle.std.proofs.Common.{◌≡◌, ℕ, zero, suc, ◌+◌, ◌<◌, Bool, true, false, cond, eqb, nat_lt, ◌&&◌, List, [], ◌∷◌}
use Rattle.std.proofs.Common.{get_or, map, filter, refl, sym, ap, ◌∙◌, subst, arith, All}
use Rattle.std.specs.List.{list_all, list_any, range_with_len}
use Rattle.std.proofs.lemmas.Bool.{and_from, eq-eqb, eqb-true, lt-ltb}
use Rattle.std.proofs.lemmas.List.FromFn.{length-map-range_with_len, get_or-map-range_with_len}
use Rattle.std.proofs.lemmas.List.Elements.{All-cons, All-head, All-tail}
use Rattle.std.proofs.lemmas.List.Folds.{list_any_at}
use Rattle.std.proofs.lemmas.Map.Views.{any-filter_same}
use Rattle.mesh_model.specs.Naming.{is_rising}
use Rattle.mesh_model.proofs.Lists.{list_any-elim}

-- two tests give one answer where each gives what the other does
pub same_tests : (p q : Bool) → (p ≡ true → q ≡ true) → (q ≡ true → p ≡ true) → p ≡ q
same_tests true q f g = sym (f refl)
same_tests false true f g = g refl
same_tests false false f g = refl

-- tests that agree on the elements of a list keep the same
pub filter-same : {X : Type 0} (p q : X → Bool) (xs : List X) → All (λ x. p x ≡ q x) xs → filter p xs ≡ filter q xs
filter-same p q [] h = refl
filter-same p q (x ∷ xs) h =
    rw (All-head (λ y. p y ≡ q y) x xs h, filter-same p q xs (All-tail (λ y. p y ≡ q y) x xs h)) refl

-- what holds of each element that passes
pub All-filter_passing : {X : Type 0} (P : X → Type 0) (p : X → Bool) (xs : List X) → All (λ x. p x ≡ true → P x) xs
    → All P (filter p xs)
All-filter_passing P p [] h = λ k d less. absurd (omega arith)
All-filter_passing {X = X} P p (x ∷ xs) h =
    first (p x) refl (All-filter_passing P p xs (All-tail (λ y. p y ≡ true → P y) x xs h))
  where
    first : (b : Bool) → p x ≡ b → All P (filter p xs) → All P (cond b (x ∷ filter p xs) (filter p xs))
    first true is rest = All-cons P x (filter p xs) (All-head (λ y. p y ≡ true → P y) x xs h is) rest
    first false is rest = rest

-- ---- NUMBERS

-- each number that a filter of a range keeps is at least its beginning
least_kept : (p : ℕ → Bool) (k m n : ℕ) → k < m → list_all (nat_lt k) (filter p (range_with_len m n)) ≡ true
least_kept p k m zero h = refl
least_kept p k m (suc n) h = first (p m) (least_kept p k (m + 1) n (omega arith))
  where
    first : (b : Bool) → list_all (nat_lt k) (filter p (range_with_len (m + 1) n)) ≡ true
        → list_all (nat_lt k) (cond b (m ∷ filter p (range_with_len (m + 1) n)) (filter p (range_with_len (m + 1) n)))
        ≡ true
    first true rest = and_from (nat_lt k m) (list_all (nat_lt k) (filter p (range_with_len (m + 1) n))) (lt-ltb k m h)
        rest
    first false rest = rest

-- and they rise
rising_kept : (p : ℕ → Bool) (m n : ℕ) → is_rising (filter p (range_with_len m n)) ≡ true
rising_kept p m zero = refl
rising_kept p m (suc n) = first (p m) (rising_kept p (m + 1) n)
  where
    first : (b : Bool) → is_rising (filter p (range_with_len (m + 1) n)) ≡ true
        → is_rising (cond b (m ∷ filter p (range_with_len (m + 1) n)) (filter p (range_with_len (m + 1) n))) ≡ true
    first true rest = and_from (list_all (nat_lt m) (filter p (range_with_len (m + 1) n)))
        (is_rising (filter p (range_with_len (m + 1) n))) (least_kept p m (m + 1) n (omega arith)) rest
    first false rest = rest

-- ---- NAMES OF ANY KIND

module _ {N : Type 0} (number : N → ℕ) (name : ℕ → N) (number-name : (n : ℕ)
    → number (name n) ≡ n) (name-number : (x : N) → name (number x) ≡ x) where
  numbers-filter : (p : N → Bool) (ns : List ℕ) → map number (filter p (map name ns)) ≡ filter (λ n. p (name n)) ns
  numbers-filter p [] = refl
  numbers-filter p (n ∷ ns) = first (p (name n)) (numbers-filter p ns)
    where
      first : (b : Bool) → map number (filter p (map name ns)) ≡ filter (λ n. p (name n)) ns
          → map number (cond b (name n ∷ filter p (map name ns)) (filter p (map name ns)))
          ≡ cond b (n ∷ filter (λ n. p (name n)) ns) (filter (λ n. p (name n)) ns)
      first true rest = rw (number-name n, rest) refl
      first false rest = rest

  -- the names that a filter keeps rise
  pub rising-filter : (p : N → Bool) (count : ℕ)
      → is_rising (map number (filter p (map name (range_with_len 0 count)))) ≡ true
  rising-filter p count = ap is_rising (numbers-filter p (range_with_len 0 count))
      ∙ rising_kept (λ n. p (name n)) 0 count

  same_name : (x y : N) → eqb (number y) (number x) ≡ true → y ≡ x
  same_name x y same = sym (name-number y) ∙ ap name (eqb-true (number y) (number x) same) ∙ name-number x

  -- a name below the count is among those that a filter keeps where it passes
  pub among-filter : (p : N → Bool) (x : N) (count : ℕ) → number x < count
      → list_any (λ y. eqb (number y) (number x)) (filter p (map name (range_with_len 0 count))) ≡ p x
  among-filter p x count less =
      any-filter_same (λ y. eqb (number y) (number x)) p (p x) (λ y same. ap p (same_name x y same))
      (map name (range_with_len 0 count))
      ∙ ap (λ (b : Bool). p x && b) all ∙ and_true (p x)
    where
      all : list_any (λ y. eqb (number y) (number x)) (map name (range_with_len 0 count)) ≡ true
      all = list_any_at (λ y. eqb (number y) (number x)) (map name (range_with_len 0 count)) (number x) (name 0)
          (rw (length-map-range_with_len name 0 count) less)
          (eq-eqb (number (get_or (map name (range_with_len 0 count)) (number x) (name 0))) (number x)
          (ap number (get_or-map-range_with_len name 0 count (number x) (number x) (name 0) less (omega arith))
          ∙ number-name (number x)))

      and_true : (b : Bool) → (b && true) ≡ b
      and_true true = refl
      and_true false = refl

  -- each name below a count
  pub All-below : (P : N → Type 0) (count : ℕ) → ((x : N) → number x < count → P x)
      → All P (map name (range_with_len 0 count))
  All-below P count h k d less =
      let within : k < count = omega (arith, length-map-range_with_len name 0 count) in
      let is : get_or (map name (range_with_len 0 count)) k d ≡ name k =
      get_or-map-range_with_len name 0 count k k d within (omega arith) in
      subst P (sym is) (h (name k) (rw (number-name k) within))

  -- a property of the members of a set is one of each name that is among them
  pub among-All : (P : N → Type 0) (xs : List N) (x : N) → All P xs
      → list_any (λ y. eqb (number y) (number x)) xs ≡ true → P x
  among-All P xs x all among =
      list_any-elim (P x) (λ y. eqb (number y) (number x)) xs
      (λ k d less same. subst P (same_name x (get_or xs k d) same) (all k d less)) among

  -- a test that a name among others passes is passed by one of them
  pub any-among : (test : N → Bool) (xs : List N) (x : N) → list_any (λ y. eqb (number y) (number x)) xs ≡ true
      → test x ≡ true → list_any test xs ≡ true
  any-among test xs x among pass =
      list_any-elim (list_any test xs ≡ true) (λ y. eqb (number y) (number x)) xs
      (λ k d less same. list_any_at test xs k d less (ap test (same_name x (get_or xs k d) same) ∙ pass)) among

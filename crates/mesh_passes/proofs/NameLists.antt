-- A rising list of numbers is told by its members, and so is the filter of all names below a count.
use Rattle.std.proofs.Common.{◌≡◌, ℕ, ◌<◌, Bool, true, false, eqb, nat_lt, ◌||◌, List, [], ◌∷◌, map, filter, refl, sym, ap}
use Rattle.std.proofs.Common.{◌∙◌, subst, inl, inr, arith, suc, length, get_or}
use Rattle.std.specs.List.{list_all, list_any, range_with_len, Contains, dedup}
use Rattle.std.proofs.lemmas.Bool.{and_parts, and_from, or_left, or_from, eq-eqb, eqb-true, ne_eqb, ltb-true, lt-ltb}
use Rattle.std.proofs.lemmas.Bool.{cases_order, cases_Bool}
use Rattle.std.proofs.lemmas.List.{get_or_default}
use Rattle.std.proofs.lemmas.List.Elements.{filter_passes}
use Rattle.std.proofs.lemmas.List.Folds.{list_any_at}
use Rattle.std.proofs.lemmas.List.Kept.{Contains-dedup_nat, Contains-from_dedup}
use Rattle.mesh_model.proofs.Lists.{All-list_all, list_any-elim}
use Rattle.mesh_model.specs.Naming.{is_rising}
use Rattle.mesh_model.proofs.NameSets.{rising-filter, among-filter, among-All, same_tests}

-- a number isn't among greater ones
none_among : (n : ℕ) (xs : List ℕ) → list_all (nat_lt n) xs ≡ true → list_any (λ m. eqb m n) xs ≡ false
none_among n [] h = refl
none_among n (x ∷ xs) h =
    let both = and_parts (nat_lt n x) (list_all (nat_lt n) xs) h in
    let less = ltb-true n x both.0 in
    or_from (eqb x n) (list_any (λ m. eqb m n) xs) (ne_eqb x n (λ e. absurd (omega arith))) (none_among n xs both.1)

-- what is above a number is above a lesser one
above_less : (m n : ℕ) (xs : List ℕ) → m < n → list_all (nat_lt n) xs ≡ true → list_all (nat_lt m) xs ≡ true
above_less m n [] less h = refl
above_less m n (x ∷ xs) less h =
    let both = and_parts (nat_lt n x) (list_all (nat_lt n) xs) h in
    let more = ltb-true n x both.0 in
    and_from (nat_lt m x) (list_all (nat_lt m) xs) (lt-ltb m x (omega arith)) (above_less m n xs less both.1)

-- the least number of one list isn't below that of the other
not_less : (x y : ℕ) (xs ys : List ℕ) → list_all (nat_lt y) ys ≡ true
    → list_any (λ m. eqb m x) (x ∷ xs) ≡ list_any (λ m. eqb m x) (y ∷ ys) → x < y → ⊥
not_less x y xs ys up same less =
    let none : list_any (λ m. eqb m x) (y ∷ ys) ≡ false = none_among x (y ∷ ys)
    (and_from (nat_lt x y) (list_all (nat_lt x) ys) (lt-ltb x y less) (above_less x y ys less up)) in
    let here : list_any (λ m. eqb m x) (x ∷ xs) ≡ true =
    or_left (eqb x x) (list_any (λ m. eqb m x) xs) (eq-eqb x x refl) in
    let wrong : true ≡ false = sym here ∙ same ∙ none in cc

same_heads : (x y : ℕ) (xs ys : List ℕ) → list_all (nat_lt x) xs ≡ true → list_all (nat_lt y) ys ≡ true
    → ((n : ℕ) → list_any (λ m. eqb m n) (x ∷ xs) ≡ list_any (λ m. eqb m n) (y ∷ ys)) → x ≡ y
same_heads x y xs ys up_x up_y same = elim (cases_order x y) [
  | inl equal ↦ equal
  | inr other ↦ elim other [
    | inl less ↦ absurd (not_less x y xs ys up_y (same x) less)
    | inr more ↦ absurd (not_less y x ys xs up_x (sym (same y)) more)
  ]
]

same_tails : (x : ℕ) (xs ys : List ℕ) → list_all (nat_lt x) xs ≡ true → list_all (nat_lt x) ys ≡ true
    → ((n : ℕ) → list_any (λ m. eqb m n) (x ∷ xs) ≡ list_any (λ m. eqb m n) (x ∷ ys)) → (n : ℕ)
    → list_any (λ m. eqb m n) xs ≡ list_any (λ m. eqb m n) ys
same_tails x xs ys up_x up_y same n = elim (cases_Bool (eqb x n)) [
  | inl is ↦
      let equal : x ≡ n = eqb-true x n is in
      none_among n xs (subst (λ (k : ℕ). list_all (nat_lt k) xs ≡ true) equal up_x)
      ∙ sym (none_among n ys (subst (λ (k : ℕ). list_all (nat_lt k) ys ≡ true) equal up_y))
  | inr is ↦ sym (ap (λ (b : Bool). b || list_any (λ m. eqb m n) xs) is) ∙ same n
      ∙ ap (λ (b : Bool). b || list_any (λ m. eqb m n) ys) is
]

-- rising lists with the same members are the same
pub same_rising : (xs ys : List ℕ) → is_rising xs ≡ true → is_rising ys ≡ true
    → ((n : ℕ) → list_any (λ m. eqb m n) xs ≡ list_any (λ m. eqb m n) ys) → xs ≡ ys
same_rising [] [] rising_x rising_y same = refl
same_rising [] (y ∷ ys) rising_x rising_y same =
    let here : list_any (λ m. eqb m y) (y ∷ ys) ≡ true =
    or_left (eqb y y) (list_any (λ m. eqb m y) ys) (eq-eqb y y refl) in
    let wrong : false ≡ true = same y ∙ here in absurd (cc)
same_rising (x ∷ xs) [] rising_x rising_y same =
    let here : list_any (λ m. eqb m x) (x ∷ xs) ≡ true =
    or_left (eqb x x) (list_any (λ m. eqb m x) xs) (eq-eqb x x refl) in
    let wrong : true ≡ false = sym here ∙ same x in absurd (cc)
same_rising (x ∷ xs) (y ∷ ys) rising_x rising_y same =
    let up_x = and_parts (list_all (nat_lt x) xs) (is_rising xs) rising_x in
    let up_y = and_parts (list_all (nat_lt y) ys) (is_rising ys) rising_y in
    let heads : x ≡ y = same_heads x y xs ys up_x.0 up_y.0 same in
    let above : list_all (nat_lt x) ys ≡ true = subst (λ (k : ℕ). list_all (nat_lt k) ys ≡ true) (sym heads) up_y.0 in
    let fits : (n : ℕ) → list_any (λ m. eqb m n) (x ∷ xs) ≡ list_any (λ m. eqb m n) (x ∷ ys) =
    λ n. same n ∙ ap (λ (k : ℕ). list_any (λ m. eqb m n) (k ∷ ys)) (sym heads) in
    let tails = same_rising xs ys up_x.1 up_y.1 (same_tails x xs ys up_x.0 above fits) in
    ap (λ (k : ℕ). k ∷ xs) heads ∙ ap (λ (zs : List ℕ). y ∷ zs) tails

-- ---- SORTED, WITHOUT REPEATS

pub increasing_rises : (xs : List ℕ) → ((i j d : ℕ) → i < j → j < length xs → get_or xs i d < get_or xs j d)
    → is_rising xs ≡ true
increasing_rises [] h = refl
increasing_rises (x ∷ xs) h =
    and_from (list_all (nat_lt x) xs) (is_rising xs)
    (All-list_all (nat_lt x) xs (λ k d less. lt-ltb x (get_or xs k d) (h 0 (suc k) d (omega arith) (omega arith))))
    (increasing_rises xs (λ i j d less within. h (suc i) (suc j) d (omega arith) (omega arith)))

among_contains : (xs : List ℕ) (n : ℕ) → list_any (λ m. eqb m n) xs ≡ true → Contains xs n
among_contains xs n h = list_any-elim (Contains xs n) (λ m. eqb m n) xs
    (λ k d less same. (k, less, get_or_default xs k n d less ∙ eqb-true (get_or xs k d) n same)) h

contains_among : (xs : List ℕ) (n : ℕ) → Contains xs n → list_any (λ m. eqb m n) xs ≡ true
contains_among xs n h = list_any_at (λ m. eqb m n) xs h.0 n h.1 (eq-eqb (get_or xs h.0 n) n h.2)

pub among_dedup : (n : ℕ) (xs : List ℕ) → list_any (λ m. eqb m n) (dedup eqb xs) ≡ list_any (λ m. eqb m n) xs
among_dedup n xs = same_tests (list_any (λ m. eqb m n) (dedup eqb xs)) (list_any (λ m. eqb m n) xs)
    (λ h. contains_among xs n (Contains-from_dedup eqb xs n (among_contains (dedup eqb xs) n h)))
    (λ h. contains_among (dedup eqb xs) n (Contains-dedup_nat xs n (among_contains xs n h)))

-- ---- NAMES OF ANY KIND

module _ {N : Type 0} (number : N → ℕ) (name : ℕ → N) (number-name : (n : ℕ)
    → number (name n) ≡ n) (name-number : (x : N) → name (number x) ≡ x) where
  -- names by their numbers
  pub named_again : (xs : List N) → map name (map number xs) ≡ xs
  named_again [] = refl
  named_again (x ∷ xs) = rw (name-number x, named_again xs) refl

  -- a number is among those of some names where one of them has it
  pub number_among : (xs : List N) (n : ℕ) → list_any (λ m. eqb m n) (map number xs)
      ≡ list_any (λ y. eqb (number y) n) xs
  number_among [] n = refl
  number_among (x ∷ xs) n = ap (λ (b : Bool). eqb (number x) n || b) (number_among xs n)

  -- the names that pass a test, where those of a rising list of numbers do, and they are below the count
  pub names_passing : (p : N → Bool) (count : ℕ) (ns : List ℕ) → is_rising ns ≡ true
      → ((n : ℕ) → list_any (λ m. eqb m n) ns ≡ p (name n)) → ((x : N) → p x ≡ true → number x < count)
      → map name ns ≡ filter p (map name (range_with_len 0 count))
  names_passing p count ns rising members below =
      ap (map name) (same_rising ns (map number kept) rising (rising-filter number name number-name name-number p count)
      (λ n. members n ∙ sym (same_tests (list_any (λ m. eqb m n) (map number kept)) (p (name n)) (passes n) (found n))))
      ∙ named_again kept
    where
      kept : List N
      kept = filter p (map name (range_with_len 0 count))

      renumbered : (n : ℕ) → list_any (λ m. eqb m n) (map number kept)
          ≡ list_any (λ y. eqb (number y) (number (name n))) kept
      renumbered n = number_among kept n ∙ ap (λ (k : ℕ). list_any (λ y. eqb (number y) k) kept) (sym (number-name n))

      passes : (n : ℕ) → list_any (λ m. eqb m n) (map number kept) ≡ true → p (name n) ≡ true
      passes n among = among-All number name number-name name-number (λ y. p y ≡ true) kept (name n)
          (filter_passes p (map name (range_with_len 0 count))) (sym (renumbered n) ∙ among)

      found : (n : ℕ) → p (name n) ≡ true → list_any (λ m. eqb m n) (map number kept) ≡ true
      found n pass = renumbered n
          ∙ among-filter number name number-name name-number p (name n) count (below (name n) pass) ∙ pass

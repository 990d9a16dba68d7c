-- Ranks in rising lists of numbers, and the fresh names that they give.
use Rattle.std.proofs.Common.{◌≡◌, ℕ, zero, suc, ◌+◌, ◌<◌, ◌≤◌, true, cond, eqb, nat_lt, List, [], ◌∷◌, length, get_or}
use Rattle.std.proofs.Common.{refl, sym, ap, ◌∙◌, arith, All}
use Rattle.std.specs.List.{list_all, list_any}
use Rattle.std.proofs.lemmas.Bool.{and_parts, eqb-true, le-ltb, ltb-true}
use Rattle.std.proofs.lemmas.List.{get_or_default}
use Rattle.std.proofs.lemmas.List.Sums.{sum_by-cons}
use Rattle.mesh_model.specs.Naming.{rank, fresh, is_rising}
use Rattle.mesh_model.proofs.Lists.{list_all-All, list_any-elim}

rank-cons : (m : ℕ) (ms : List ℕ) (x : ℕ) → rank (m ∷ ms) x ≡ cond (nat_lt m x) 1 0 + rank ms x
rank-cons m ms x = sum_by-cons (λ (y : ℕ). cond (nat_lt y x) 1 0) m ms

rank-none : (x : ℕ) (ms : List ℕ) → ((k : ℕ) → k < length ms → x ≤ get_or ms k 0) → rank ms x ≡ 0
rank-none x [] h = refl
rank-none x (m ∷ ms) h = rank-cons m ms x
    ∙ rw (le-ltb m x (h 0 (omega arith)), rank-none x ms (λ k less. h (suc k) (omega arith))) refl

-- each number of a rising list has its position as its rank
pub rank-get_or : (ms : List ℕ) (i : ℕ) → is_rising ms ≡ true → i < length ms → rank ms (get_or ms i 0) ≡ i
rank-get_or [] i rising less = absurd (omega arith)
rank-get_or (m ∷ ms) zero rising less =
    let above = list_all-All (nat_lt m) ms (and_parts (list_all (nat_lt m) ms) (is_rising ms) rising).0 in
    rank-none m (m ∷ ms) (below above)
  where
    below : All (λ (n : ℕ). nat_lt m n ≡ true) ms → (k : ℕ) → k < length (m ∷ ms) → m ≤ get_or (m ∷ ms) k 0
    below above zero h = omega arith
    below above (suc k) h = let less = ltb-true m (get_or ms k 0) (above k 0 (omega arith)) in omega arith
rank-get_or (m ∷ ms) (suc i) rising less =
    let both = and_parts (list_all (nat_lt m) ms) (is_rising ms) rising in
    let above : nat_lt m (get_or ms i 0) ≡ true = list_all-All (nat_lt m) ms both.0 i 0 (omega arith) in
    rank-cons m ms (get_or ms i 0) ∙ rw (above, rank-get_or ms i both.1 (omega arith)) (omega arith)

-- the position of a member
pub place : (ms : List ℕ) (x : ℕ) → list_any (λ y. eqb y x) ms ≡ true → (i : ℕ) × (i < length ms) × (get_or ms i 0 ≡ x)
place ms x among = list_any-elim ((i : ℕ) × (i < length ms) × (get_or ms i 0 ≡ x)) (λ y. eqb y x) ms
    (λ k d less same. (k, less, get_or_default ms k 0 d less ∙ eqb-true (get_or ms k d) x same)) among

-- a member's rank is its position, and so below the number of members
pub get_or-rank : (ms : List ℕ) (x : ℕ) → is_rising ms ≡ true → list_any (λ y. eqb y x) ms ≡ true
    → get_or ms (rank ms x) 0 ≡ x
get_or-rank ms x rising among = let it = place ms x among in
    ap (λ (i : ℕ). get_or ms i 0) (ap (rank ms) (sym it.2) ∙ rank-get_or ms it.0 rising it.1) ∙ it.2

pub rank-below : (ms : List ℕ) (x : ℕ) → is_rising ms ≡ true → list_any (λ y. eqb y x) ms ≡ true → rank ms x < length ms
rank-below ms x rising among = let it = place ms x among in
    let is : rank ms x ≡ it.0 = ap (rank ms) (sym it.2) ∙ rank-get_or ms it.0 rising it.1 in
    let less : it.0 < length ms = it.1 in omega arith

-- members of the same rank are the same
pub rank-same : (ms : List ℕ) (x y : ℕ) → is_rising ms ≡ true → list_any (λ z. eqb z x) ms ≡ true
    → list_any (λ z. eqb z y) ms ≡ true → rank ms x ≡ rank ms y → x ≡ y
rank-same ms x y rising x_among y_among same = sym (get_or-rank ms x rising x_among)
    ∙ ap (λ (i : ℕ). get_or ms i 0) same ∙ get_or-rank ms y rising y_among

-- the fresh names of a group fill the numbers from its offset on, and differ
pub fresh-below : (next offset : ℕ) (ms : List ℕ) (x : ℕ) → is_rising ms ≡ true → list_any (λ y. eqb y x) ms ≡ true
    → fresh next offset ms x < next + offset + length ms
fresh-below next offset ms x rising among = let less = rank-below ms x rising among in omega arith

pub fresh-get_or : (next offset : ℕ) (ms : List ℕ) (i : ℕ) → is_rising ms ≡ true → i < length ms
    → fresh next offset ms (get_or ms i 0) ≡ next + offset + i
fresh-get_or next offset ms i rising less = rw (rank-get_or ms i rising less) refl

pub fresh-same : (next offset : ℕ) (ms : List ℕ) (x y : ℕ) → is_rising ms ≡ true → list_any (λ z. eqb z x) ms ≡ true
    → list_any (λ z. eqb z y) ms ≡ true → fresh next offset ms x ≡ fresh next offset ms y → x ≡ y
fresh-same next offset ms x y rising x_among y_among same = rank-same ms x y rising x_among y_among (omega arith)

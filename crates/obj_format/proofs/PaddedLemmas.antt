-- Lemmas on digits with zeros after them.
use Rattle.std.proofs.Common.{◌≡◌, ◌<◌, ◌≤◌, ◌+◌, ◌*◌, ◌&&◌, ℕ, zero, suc, true, false, Bool, List, [], ◌∷◌}
use Rattle.std.proofs.Common.{◌++◌, length, length-append, get_or, refl, ap, arith, min}
use Rattle.std.specs.List.{list_all}
use Rattle.text_words.specs.Text.{is_digit}
use Rattle.text_words.proofs.NumberLemmas.{numerals}
use Rattle.std.proofs.lemmas.Str.Parse.{digit_at}
use Rattle.obj_format.specs.Numbers.{padded}

pub length-padded : (s : ℕ) (ds : List ℕ) → length (padded s ds) ≡ s
length-padded zero ds = refl
length-padded (suc s) [] = ap suc (length-padded s [])
length-padded (suc s) (d ∷ ds) = ap suc (length-padded s ds)

pub padded_past : (s : ℕ) (ds : List ℕ) (k : ℕ) → k < s → length ds ≤ k → get_or (padded s ds) k 0 ≡ 48
padded_past zero ds k below past = absurd (omega arith)
padded_past (suc s) [] zero below past = refl
padded_past (suc s) [] (suc k) below past = padded_past s [] k (omega arith) (omega arith)
padded_past (suc s) (d ∷ ds) zero below past = absurd (omega arith)
padded_past (suc s) (d ∷ ds) (suc k) below past = padded_past s ds k (omega arith) (omega arith)

pub padded_in : (s : ℕ) (ds : List ℕ) (k : ℕ) → k < s → k < length ds → get_or (padded s ds) k 0 ≡ get_or ds k 0
padded_in zero ds k below here = absurd (omega arith)
padded_in (suc s) [] k below here = absurd (omega arith)
padded_in (suc s) (d ∷ ds) zero below here = refl
padded_in (suc s) (d ∷ ds) (suc k) below here = padded_in s ds k (omega arith) (omega arith)

and_then : (a b c : Bool) → (a && b) ≡ true → (b ≡ true → c ≡ true) → (a && c) ≡ true
and_then true b c both more = more both
and_then false b c both more = both

second : (a b : Bool) → (a && b) ≡ true → b ≡ true
second true b both = both
second false b both = absurd (no both)
  where
    no : false ≡ true → ⊥
    no e = cc

pub digits_padded : (s : ℕ) (ds : List ℕ) → list_all is_digit ds ≡ true → list_all is_digit (padded s ds) ≡ true
digits_padded zero ds digits = refl
digits_padded (suc s) [] digits = digits_padded s [] refl
digits_padded (suc s) (d ∷ ds) digits =
    and_then (is_digit d) (list_all is_digit ds) (list_all is_digit (padded s ds)) digits
    (λ more. digits_padded s ds more)

pub digits_append : (xs ys : List ℕ) → list_all is_digit xs ≡ true → list_all is_digit ys ≡ true
    → list_all is_digit (xs ++ ys) ≡ true
digits_append [] ys one two = two
digits_append (x ∷ xs) ys one two = and_then (is_digit x) (list_all is_digit xs) (list_all is_digit (xs ++ ys)) one
    (λ more. digits_append xs ys more two)

-- a step of a number that stops growing at a limit
pub capped_more : (limit n v d : ℕ) → n ≡ min limit v → min limit (10 * n + d) ≡ min limit (10 * v + d)
capped_more limit n v d same = omega arith

-- the digits of both
pub all_digits : (s : ℕ) (whole part : List ℕ) → list_all is_digit whole ≡ true → list_all is_digit part ≡ true
    → list_all is_digit (whole ++ padded s part) ≡ true
all_digits s whole part one two = digits_append whole (padded s part) one (digits_padded s part two)

pub all_length : (s : ℕ) (whole part : List ℕ) → length (whole ++ padded s part) ≡ length whole + s
all_length s whole part = omega (arith, length-append whole (padded s part), length-padded s part)

-- no digit is below the digit 0
pub digit_least : (ds : List ℕ) (i : ℕ) → list_all is_digit ds ≡ true → i < length ds → 48 ≤ get_or ds i 0
digit_least ds i digits here = (digit_at ds i (numerals.to ds digits) here).0

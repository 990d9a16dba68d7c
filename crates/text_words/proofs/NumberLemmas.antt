-- Lemmas on numbers and their digits.
use Rattle.std.proofs.Common.{◌≡◌, ◌≤◌, ◌<◌, ◌^◌, ◌+◌, ◌-◌, ◌*◌, ℕ, suc, ℤ, pos, negsuc, neg_ℤ, ◌<ℤ◌, true, List, [], ◌∷◌, ◌++◌, length, length-append, min, arith, rules, refl, ap, ◌∙◌, Some, None, Bool, false, cond, ◌&&◌, ◌==◌, nat_lt, nat_le, take, get_or}
use Rattle.std.proofs.Math.Nat.{pow-le-pow_right, mul_assoc}
use Rattle.std.proofs.lemmas.Bool.{and_parts, lt-ltb, le-leb, eqb-true}
use Rattle.std.proofs.lemmas.List.{take_more}
use Rattle.std.proofs.lemmas.Grind.{pow_more}
use Rattle.std.proofs.lemmas.Fmt.{digits_decimal, digits_value-decimal, length-decimal-le, decimal_nonempty}
use Rattle.std.proofs.lemmas.Str.Parse.{IsNumeralModel, numerals_by_weight, digit_at}
use Rattle.std.specs.Fmt.{decimal, signed_decimal}
use Rattle.std.specs.List.{list_all}
use Rattle.text_words.specs.Text.{is_digit, value, natural, integer}
use Rattle.std.specs.Option.{option_map}
use Rattle.std.proofs.lemmas.Int.{ints}
use borrow.Author.Tests.{tests}

-- a longer number has more room
pub power_of_ten_grows : (i j : ℕ) → i ≤ j → 10 ^ i ≤ 10 ^ j
power_of_ten_grows i j h = pow-le-pow_right (omega arith) h

-- 18 digits fit a word of 64 bits, with a factor 10
pub power_of_ten_fits : (i : ℕ) → i ≤ 18 → 10 ^ i ≤ 10 ^ 18
power_of_ten_fits i h = power_of_ten_grows i 18 h

ten_times : (a p v e : ℕ) → a * (p * 10) + (10 * v + e) ≡ 10 * (a * p + v) + e
ten_times a p v e = omega (arith, mul_assoc a p 10)

-- one digit more
pub value_push : (ds : List ℕ) (d : ℕ) → value (ds ++ d ∷ []) ≡ 10 * value ds + (d - 48)
value_push [] d = omega arith
value_push (x ∷ xs) d =
    let longer : length (xs ++ d ∷ []) ≡ length xs + 1 = omega (arith, length-append xs (d ∷ [])) in
    let power : 10 ^ length (xs ++ d ∷ []) ≡ 10 ^ length xs * 10 = ap (λ n. 10 ^ n) longer ∙ pow_more 10 (length xs) in
    let at_place : value (x ∷ (xs ++ d ∷ [])) ≡ (x - 48) * (10 ^ length xs * 10) + value (xs ++ d ∷ []) =
    ap (λ p. (x - 48) * p + value (xs ++ d ∷ [])) power in
    at_place ∙ ap (λ v. (x - 48) * (10 ^ length xs * 10) + v) (value_push xs d)
    ∙ ten_times (x - 48) (10 ^ length xs) (value xs) (d - 48)

-- the same, along a text
pub value_more : (ds : List ℕ) (i : ℕ) → i < length ds
    → value (take (i + 1) ds) ≡ 10 * value (take i ds) + (get_or ds i 0 - 48)
value_more ds i here = ap value (take_more ds i 0 here) ∙ value_push (take i ds) (get_or ds i 0)

-- texts of digits and what they spell, as the library's lemmas on numerals want them
pub numerals : IsNumeralModel (λ ds. list_all is_digit ds ≡ true) value
numerals = numerals_by_weight _ (search (rules, tests)) value (search (rules, tests))

chosen : (some few digits : Bool) (n : ℕ) → some ≡ true → few ≡ true → digits ≡ true
    → cond (few && (some && digits)) (Some n) None ≡ Some n
chosen true true true n p q r = refl
chosen false true digits n p q r = cc
chosen some false digits n p q r = cc
chosen true true false n p q r = cc

-- a number that stops growing at a limit, and one digit more
pub capped_more : (most n v d next sum product : ℕ) → most < 2 ^ 64 → n ≡ min most v
    → product ≡ min (n * 10) (2 ^ 64 - 1) → sum ≡ min (product + d) (2 ^ 64 - 1) → next ≡ min most sum
    → next ≡ min most (10 * v + d)
capped_more most n v d next sum product fits is times plus least = omega arith

-- of few digits, the limit of a word of 64 bits is none
pub uncapped : (ds : List ℕ) (i n : ℕ) → i ≤ 18 → length ds ≤ i → n ≡ min (2 ^ 64 - 1) (value ds) → n < 10 ^ length ds
    → (n ≡ value ds) × (n < 10 ^ i)
uncapped ds i n few short is below =
    let small : 10 ^ length ds ≤ 10 ^ i = power_of_ten_grows (length ds) i short in
    let fits : 10 ^ i ≤ 10 ^ 18 = power_of_ten_fits i few in
    (omega arith, omega arith)

-- at each place of a text of digits stands one
pub digit_within : (ds : List ℕ) (i : ℕ) → list_all is_digit ds ≡ true → i < length ds → get_or ds i 0 ≤ 57
digit_within ds i digits here = (digit_at ds i (numerals.to ds digits) here).1

natural_of : (most : ℕ) (ds : List ℕ) → 0 < length ds → length ds ≤ most → list_all is_digit ds ≡ true
    → natural most ds ≡ Some (value ds)
natural_of most ds some few digits = chosen (nat_lt 0 (length ds)) (nat_le (length ds) most) (list_all is_digit ds)
    (value ds) (lt-ltb 0 (length ds) some) (le-leb (length ds) most few) digits

-- a number that is printed is read again
pub natural-decimal : (most n : ℕ) → 0 < most → most ≤ 18 → n < 10 ^ most → natural most (decimal n) ≡ Some n
natural-decimal most n some few small =
    let fits : n < 2 ^ 64 = omega (arith, power_of_ten_fits most few) in
    natural_of most (decimal n) (decimal_nonempty n fits) (length-decimal-le most n some small fits)
    (digits_decimal numerals n fits) ∙ ap Some (digits_value-decimal numerals n fits)

-- a digit is no minus
digit_no_minus : (b : ℕ) (minus : Bool) → (b == 45) ≡ minus → is_digit b ≡ true → minus ≡ false
digit_no_minus b false e digit = refl
digit_no_minus b true e digit =
    let same : b ≡ 45 = eqb-true b 45 e in
    let never : is_digit 45 ≡ true = rw same at digit in cc

first_digit : (b : ℕ) (ds : List ℕ) → list_all is_digit (b ∷ ds) ≡ true → is_digit b ≡ true
first_digit b ds digits = (and_parts (is_digit b) (list_all is_digit ds) digits).0

-- digits without a minus
unsigned : (most : ℕ) (ds : List ℕ) (n : ℕ) → 0 < length ds → list_all is_digit ds ≡ true → natural most ds ≡ Some n
    → integer most ds ≡ Some (pos n)
unsigned most [] n some digits spelled = absurd (omega arith)
unsigned most (b ∷ ds) n some digits spelled =
    ap (λ t. cond t (option_map (λ k. neg_ℤ (pos k)) (natural most ds)) (option_map pos (natural most (b ∷ ds))))
    (digit_no_minus b (b == 45) refl (first_digit b ds digits))
    ∙ ap (option_map pos) spelled

-- a signed number that is printed is read again
pub integer-signed_decimal : (most : ℕ) (z : ℤ) → 0 < most → most ≤ 18 → neg_ℤ (pos (10 ^ most)) <ℤ z
    → z <ℤ pos (10 ^ most) → integer most (signed_decimal z) ≡ Some z
integer-signed_decimal most (pos n) some few above below =
    let small : n < 10 ^ most = omega (arith, ints) in
    let fits : n < 2 ^ 64 = omega (arith, power_of_ten_fits most few) in
    unsigned most (decimal n) n (decimal_nonempty n fits) (digits_decimal numerals n fits)
    (natural-decimal most n some few small)
integer-signed_decimal most (negsuc n) some few above below =
    let small : suc n < 10 ^ most = omega (arith, ints) in
    ap (option_map (λ k. neg_ℤ (pos k))) (natural-decimal most (suc n) some few small)

-- A number that is written is read again.
use Rattle.std.proofs.Common.{◌≡◌, ◌<◌, ◌≤◌, ◌+◌, ◌-◌, ◌*◌, ◌/◌, ◌%◌, ◌^◌, ◌&&◌, ◌==◌, ◌∙◌, ℕ, zero, suc, ℤ, pos, negsuc, neg_ℤ}
use Rattle.std.proofs.Common.{true, false, not, nat_lt, Bool, cond, List, [], ◌∷◌, ◌++◌, length, length-append, append-nil}
use Rattle.std.proofs.Common.{append_assoc, take, drop, refl, ap, ap₂, sym, subst, arith, Option, Some, None, Ok, Err}
use Rattle.std.proofs.Common.{mod-lt, div-add-mod', mul_assoc, add-mul, zero-mul, div-le_self, pow-add}
use Rattle.std.specs.Prelude.{unsigned_abs, option_map}
use Rattle.std.specs.Fmt.{decimal}
use Rattle.std.specs.List.{list_all, repeat, position_or_len}
use Rattle.std.proofs.Math.Nat.{one-le-pow}
use Rattle.std.proofs.lemmas.Bool.{and_parts, lt-ltb, le-ltb, le-leb, eqb-true, eq-eqb, ne_eqb, false≢true}
use Rattle.std.proofs.lemmas.List.{take_at, drop_at, drop_all}
use Rattle.std.proofs.lemmas.Fmt.{digits_decimal, digits_value-decimal, length-decimal-le, decimal_nonempty}
use Rattle.text_words.specs.Text.{is_digit, value, cut}
use Rattle.text_words.proofs.NumberLemmas.{numerals, power_of_ten_grows}
use Rattle.obj_format.specs.declared.obj_fault.ObjWhy.TheVariants.{BadNumber, OffGrid, OutOfGrid}
use Rattle.obj_format.specs.Numbers.{is_number, is_zero, padded, in_range, unsigned, halves_of, halves, number}
use Rattle.obj_writer.specs.Written.{wide_decimal, magnitude, grid_number}

-- ---- DIGITS ARE NO SIGN AND NO POINT

differs : (b c : ℕ) (same : Bool) → (b == c) ≡ same → is_digit c ≡ false → is_digit b ≡ true → same ≡ false
differs b c false e other digit = refl
differs b c true e other digit =
    let eq : b ≡ c = eqb-true b c e in
    let never : is_digit c ≡ true = rw eq at digit in
    let clash : false ≡ true = sym other ∙ never in cc

pub apart : (b c : ℕ) → is_digit c ≡ false → is_digit b ≡ true → (b == c) ≡ false
apart b c other digit = differs b c (b == c) refl other digit

pub head_digit : (b : ℕ) (ds : List ℕ) → list_all is_digit (b ∷ ds) ≡ true → is_digit b ≡ true
head_digit b ds digits = (and_parts (is_digit b) (list_all is_digit ds) digits).0

tail_digits : (b : ℕ) (ds : List ℕ) → list_all is_digit (b ∷ ds) ≡ true → list_all is_digit ds ≡ true
tail_digits b ds digits = (and_parts (is_digit b) (list_all is_digit ds) digits).1

-- ---- A SEPARATOR

-- digits have no separator
separator_at : (c : ℕ) (xs ys : List ℕ) → is_digit c ≡ false → list_all is_digit xs ≡ true
    → position_or_len (λ b. b == c) (xs ++ c ∷ ys) ≡ length xs
separator_at c [] ys other digits = here c (c == c) refl
  where
    here : (c : ℕ) (same : Bool) → (c == c) ≡ same → position_or_len (λ b. b == c) (c ∷ ys) ≡ 0
    here c true e = ap (λ b. cond (not b) (1 + position_or_len (λ b. b == c) ys) 0) e
    here c false e = absurd (false≢true (sym e ∙ eq-eqb c c refl))
separator_at c (x ∷ xs) ys other digits =
    ap (λ b. cond (not b) (1 + position_or_len (λ b. b == c) (xs ++ c ∷ ys)) 0)
    (apart x c other (head_digit x xs digits))
    ∙ omega (arith, separator_at c xs ys other (tail_digits x xs digits))

no_separator : (c : ℕ) (xs : List ℕ) → is_digit c ≡ false → list_all is_digit xs ≡ true
    → position_or_len (λ b. b == c) xs ≡ length xs
no_separator c [] other digits = refl
no_separator c (x ∷ xs) other digits =
    ap (λ b. cond (not b) (1 + position_or_len (λ b. b == c) xs) 0) (apart x c other (head_digit x xs digits))
    ∙ omega (arith, no_separator c xs other (tail_digits x xs digits))

not_below : (n : ℕ) → nat_lt n n ≡ false
not_below n = le-ltb n n (omega arith)

-- the halves of a word
abbrev halves_at : List ℕ → ℕ → Bool → Option (List ℕ × List ℕ)
halves_at word n found = option_map (λ (k : ℕ). (take k word, drop (k + 1) word)) (cond found (Some n) None)

pub cut_at : (c : ℕ) (xs ys : List ℕ) → is_digit c ≡ false → list_all is_digit xs ≡ true
    → cut c (xs ++ c ∷ ys) ≡ Some (xs, ys)
cut_at c xs ys other digits =
    let word = xs ++ c ∷ ys in
    let within : length xs < length word = omega (arith, length-append xs (c ∷ ys)) in
    ap (λ (k : ℕ). halves_at word k (nat_lt k (length word))) (separator_at c xs ys other digits)
    ∙ ap (halves_at word (length xs)) (lt-ltb (length xs) (length word) within)
    ∙ ap₂ (λ (a b : List ℕ). Some (a, b)) (take_at xs (c ∷ ys) (length xs) refl)
    (ap (drop (length xs + 1)) (sym (append_assoc xs (c ∷ []) ys))
    ∙ drop_at (xs ++ c ∷ []) ys (length xs + 1) (omega (arith, length-append xs (c ∷ []))))

pub cut_none : (c : ℕ) (xs : List ℕ) → is_digit c ≡ false → list_all is_digit xs ≡ true → cut c xs ≡ None
cut_none c xs other digits =
    ap (λ (k : ℕ). halves_at xs k (nat_lt k (length xs))) (no_separator c xs other digits)
    ∙ ap (halves_at xs (length xs)) (not_below (length xs))

-- ---- WHAT DIGITS SPELL

value_append : (xs ys : List ℕ) → value (xs ++ ys) ≡ value xs * 10 ^ length ys + value ys
value_append [] ys = omega arith
value_append (x ∷ xs) ys =
    let power : 10 ^ length (xs ++ ys) ≡ 10 ^ length xs * 10 ^ length ys = ap (λ n. 10 ^ n) (length-append xs ys) ∙ pow-add 10 (length xs) (length ys) in
    ap₂ (λ p v. (x - 48) * p + v) power (value_append xs ys)
    ∙ omega (arith, mul_assoc (x - 48) (10 ^ length xs) (10 ^ length ys), add-mul ((x - 48) * 10 ^ length xs) (value xs) (10 ^ length ys))

zeros_value : (k : ℕ) (ds : List ℕ) → value (repeat k (48 ∷ []) ++ ds) ≡ value ds
zeros_value zero ds = refl
zeros_value (suc k) ds = omega (arith, zero-mul (10 ^ length (repeat k (48 ∷ []) ++ ds)), zeros_value k ds)

zeros_length : (k : ℕ) (ds : List ℕ) → length (repeat k (48 ∷ []) ++ ds) ≡ k + length ds
zeros_length zero ds = omega arith
zeros_length (suc k) ds = omega (arith, zeros_length k ds)

pub zeros_digits : (k : ℕ) (ds : List ℕ) → list_all is_digit ds ≡ true → list_all is_digit (repeat k (48 ∷ []) ++ ds) ≡ true
zeros_digits zero ds digits = digits
zeros_digits (suc k) ds digits = zeros_digits k ds digits

padded_same : (s : ℕ) (ds : List ℕ) → length ds ≡ s → padded s ds ≡ ds
padded_same zero [] same = refl
padded_same zero (d ∷ ds) same = absurd (omega arith)
padded_same (suc s) [] same = absurd (omega arith)
padded_same (suc s) (d ∷ ds) same = ap (λ t. d ∷ t) (padded_same s ds (omega arith))

-- ---- A NUMBER OF TWO PARTS

all_of : (a b c : Bool) → a ≡ true → b ≡ true → c ≡ true → ((a && b) && c) ≡ true
all_of true true true p q r = refl
all_of false b c p q r = cc
all_of true false c p q r = cc
all_of true true false p q r = cc

unsigned_is : (s : ℕ) (neg : Bool) (whole part : List ℕ) → list_all is_digit whole ≡ true → list_all is_digit part ≡ true → 0 < length whole → length part ≤ s
    → unsigned s neg whole part ≡ in_range neg (value (whole ++ padded s part))
unsigned_is s neg whole part one two some short =
    let form : is_number whole part ≡ true = all_of _ _ _ one two (lt-ltb 0 (length whole + length part) (omega arith)) in
    let on_grid : list_all is_zero (drop s part) ≡ true = ap (list_all is_zero) (drop_all s part short) in
    ap (λ b. cond (not b) (Err BadNumber) (cond (not (list_all is_zero (drop s part))) (Err OffGrid) (in_range neg (value (whole ++ padded s part))))) form
    ∙ ap (λ b. cond (not b) (Err OffGrid) (in_range neg (value (whole ++ padded s part)))) on_grid

halves_whole : (s : ℕ) (neg : Bool) (n : ℕ) → n < 2 ^ 64 → halves 0 neg (decimal n) ≡ in_range neg n
halves_whole s neg n fits =
    let digits = digits_decimal numerals n fits in
    ap (halves_of 0 neg (decimal n)) (cut_none 46 (decimal n) refl digits)
    ∙ unsigned_is 0 neg (decimal n) [] digits refl (decimal_nonempty n fits) (omega arith)
    ∙ ap (λ ds. in_range neg (value ds)) (append-nil (decimal n)) ∙ ap (in_range neg) (digits_value-decimal numerals n fits)

halves_parts : (s : ℕ) (neg : Bool) (n : ℕ) → 0 < s → s ≤ 6 → n < 2 ^ 64 → halves s neg (decimal (n / 10 ^ s) ++ (46 ∷ wide_decimal s (n % 10 ^ s))) ≡ in_range neg n
halves_parts s neg n some few fits =
    let unit : 0 < 10 ^ s = one-le-pow s 10 (omega arith) in
    let small : n % 10 ^ s < 10 ^ s = mod-lt n unit in
    let bounded : 10 ^ s ≤ 10 ^ 6 = power_of_ten_grows s 6 few in
    let part_fits : n % 10 ^ s < 2 ^ 64 = omega (arith, small, bounded) in
    let whole_fits : n / 10 ^ s < 2 ^ 64 = omega (arith, div-le_self n (10 ^ s)) in
    let whole = decimal (n / 10 ^ s) in
    let least = decimal (n % 10 ^ s) in
    let zeros = s - length least in
    let part = wide_decimal s (n % 10 ^ s) in
    let short : length least ≤ s = length-decimal-le s (n % 10 ^ s) some small part_fits in
    let long : length part ≡ s = omega (arith, zeros_length zeros least, short) in
    let one = digits_decimal numerals (n / 10 ^ s) whole_fits in
    let two : list_all is_digit part ≡ true = zeros_digits zeros least (digits_decimal numerals (n % 10 ^ s) part_fits) in
    let spelled : value (whole ++ part) ≡ n =
    value_append whole part ∙ ap₂ (λ v w. v * 10 ^ length part + w) (digits_value-decimal numerals (n / 10 ^ s) whole_fits) (zeros_value zeros least ∙ digits_value-decimal numerals (n % 10 ^ s) part_fits)
    ∙ ap (λ k. n / 10 ^ s * 10 ^ k + n % 10 ^ s) long ∙ div-add-mod' n (10 ^ s) in
    ap (halves_of s neg (whole ++ 46 ∷ part)) (cut_at 46 whole part refl one)
    ∙ unsigned_is s neg whole part one two (decimal_nonempty (n / 10 ^ s) whole_fits) (omega (arith, long))
    ∙ ap (λ p. in_range neg (value (whole ++ p))) (padded_same s part long) ∙ ap (in_range neg) spelled

-- a scale above 0
no_zero : (s : ℕ) → (suc s == 0) ≡ false
no_zero s = ne_eqb (suc s) 0 (λ e. absurd (omega (arith, e)))

pub with_parts : (s n : ℕ) → magnitude (suc s) n ≡ decimal (n / 10 ^ suc s) ++ (46 ∷ wide_decimal (suc s) (n % 10 ^ suc s))
with_parts s n = ap (λ b. cond b (decimal n) (decimal (n / 10 ^ suc s) ++ (46 ∷ wide_decimal (suc s) (n % 10 ^ suc s)))) (no_zero s)

halves_magnitude : (s : ℕ) (neg : Bool) (n : ℕ) → s ≤ 6 → n < 2 ^ 64 → halves s neg (magnitude s n) ≡ in_range neg n
halves_magnitude zero neg n few fits = halves_whole 0 neg n fits
halves_magnitude (suc s) neg n few fits = ap (halves (suc s) neg) (with_parts s n) ∙ halves_parts (suc s) neg n (omega arith) few fits

in_range_is : (neg : Bool) (n : ℕ) → n ≤ 1000000000 → in_range neg n ≡ Ok (cond neg (neg_ℤ (pos n)) (pos n))
in_range_is neg n small = ap (λ b. cond b (Ok (cond neg (neg_ℤ (pos n)) (pos n))) (Err OutOfGrid)) (le-leb n 1000000000 small)

-- ---- A SIGN

abbrev begins_by_digit : List ℕ → Type 0
begins_by_digit [] = ⊥
begins_by_digit (b ∷ ds) = is_digit b ≡ true

number_unsigned : (s : ℕ) (ds : List ℕ) → begins_by_digit ds → number s ds ≡ halves s false ds
number_unsigned s [] digit = absurd digit
number_unsigned s (b ∷ ds) digit =
    ap (λ t. cond t (halves s true ds) (cond (b == 43) (halves s false ds) (halves s false (b ∷ ds)))) (apart b 45 refl digit)
    ∙ ap (λ t. cond t (halves s false ds) (halves s false (b ∷ ds))) (apart b 43 refl digit)

digits_begin : (ds rest : List ℕ) → 0 < length ds → list_all is_digit ds ≡ true → begins_by_digit (ds ++ rest)
digits_begin [] rest some digits = absurd (omega arith)
digits_begin (d ∷ ds) rest some digits = head_digit d ds digits

digits_alone : (ds : List ℕ) → 0 < length ds → list_all is_digit ds ≡ true → begins_by_digit ds
digits_alone [] some digits = absurd (omega arith)
digits_alone (d ∷ ds) some digits = head_digit d ds digits

magnitude_begins : (s n : ℕ) → n < 2 ^ 64 → begins_by_digit (magnitude s n)
magnitude_begins zero n fits = digits_alone (decimal n) (decimal_nonempty n fits) (digits_decimal numerals n fits)
magnitude_begins (suc s) n fits =
    let whole_fits : n / 10 ^ suc s < 2 ^ 64 = omega (arith, div-le_self n (10 ^ suc s)) in
    subst begins_by_digit (sym (with_parts s n)) (digits_begin (decimal (n / 10 ^ suc s)) (46 ∷ wide_decimal (suc s) (n % 10 ^ suc s)) (decimal_nonempty (n / 10 ^ suc s) whole_fits) (digits_decimal numerals (n / 10 ^ suc s) whole_fits))

-- a number that is written is read again
pub numbers_return : (s : ℕ) (z : ℤ) → s ≤ 6 → unsigned_abs z ≤ 1000000000 → number s (grid_number s z) ≡ Ok z
numbers_return s (pos n) few small =
    let fits : n < 2 ^ 64 = omega (arith, small) in
    ap (λ b. number s (cond b (45 ∷ magnitude s n) (magnitude s n))) (le-ltb n 0 (omega arith))
    ∙ number_unsigned s (magnitude s n) (magnitude_begins s n fits) ∙ halves_magnitude s false n few fits ∙ in_range_is false n small
numbers_return s (negsuc n) few small =
    let fits : suc n < 2 ^ 64 = omega (arith, small) in
    halves_magnitude s true (suc n) few fits ∙ in_range_is true (suc n) small

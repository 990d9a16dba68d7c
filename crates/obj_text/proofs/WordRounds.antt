-- Words that are written are read again: numbers, indices, corners and smoothing groups.
use Rattle.std.proofs.Common.{◌≡◌, ◌<◌, ◌≤◌, ◌+◌, ◌-◌, ◌/◌, ◌%◌, ◌^◌, ◌∙◌, ◌==◌, ◌&&◌, ℕ, zero, suc, ℤ, pos, negsuc, neg_ℤ}
use Rattle.std.proofs.Common.{int_le, true, false, not, nat_le, nat_lt, nat_eq, Bool, cond, List, [], ◌∷◌, ◌++◌, length, refl}
use Rattle.std.proofs.Common.{ap, arith, Option, Some, None, div-le_self, mod-lt}
use Rattle.std.specs.Prelude.{unsigned_abs, option_and_then, codes}
use Rattle.std.specs.Fmt.{decimal}
use Rattle.std.specs.List.{list_all}
use Rattle.std.proofs.lemmas.Bool.{and_parts, and_from, leb-true, le-leb, le-ltb, lt-ltb, ne_eqb}
use Rattle.std.proofs.lemmas.Int.{ints}
use Rattle.std.proofs.lemmas.List.Folds.{list_all-append}
use Rattle.std.proofs.lemmas.Fmt.{digits_decimal, digits_value-decimal, decimal_nonempty}
use Rattle.std.proofs.Math.Nat.{one-le-pow}
use lib.Pointwise.{pointwise}
use Rattle.text_words.specs.Text.{is_digit, value, up_to}
use Rattle.text_words.proofs.NumberLemmas.{numerals, power_of_ten_grows}
use Rattle.mesh_model.specs.Valid.{is_in_range}
use Rattle.mesh_model.proofs.MixedValues.{int_le-true}
use Rattle.obj_format.specs.declared.indices.Counts.{Counts}
use Rattle.obj_format.specs.declared.indices.Corner.{Corner}
use Rattle.obj_format.specs.Indices.{fore, back, index, rest_cut, corner_cut, corner}
use Rattle.obj_reader.specs.Values.{smooth_word, smooth_of}
use Rattle.obj_writer.specs.Written.{wide_decimal, magnitude, grid_number}
use Rattle.obj_writer.specs.Whole.{corner_text}
use Rattle.obj_text.proofs.PlainLemmas.{is_plain, IsPlain}
use Rattle.obj_text.proofs.NumberRounds.{apart, head_digit, cut_at, cut_none, zeros_digits, with_parts}

-- ---- DIGITS ARE PLAIN

digit_plain : (b : ℕ) → is_digit b ≡ true → is_plain b ≡ true
digit_plain b digit =
    let both = and_parts (nat_le 48 b) (nat_le b 57) digit in
    let least : 48 ≤ b = leb-true 48 b both.0 in
    let most : b ≤ 57 = leb-true b 57 both.1 in
    and_from (nat_le 45 b) (not (b == 92)) (le-leb 45 b (omega arith)) (ap not (ne_eqb b 92 (λ e. absurd (omega (arith, e)))))

pub digits_plain : (ds : List ℕ) → list_all is_digit ds ≡ true → list_all is_plain ds ≡ true
digits_plain [] h = refl
digits_plain (d ∷ ds) h =
    let both = and_parts (is_digit d) (list_all is_digit ds) h in
    and_from (is_plain d) (list_all is_plain ds) (digit_plain d both.0) (digits_plain ds both.1)

pub decimal_plain : (n : ℕ) → n < 2 ^ 64 → IsPlain (decimal n)
decimal_plain n fits = record {
  bytes = digits_plain (decimal n) (digits_decimal numerals n fits);
  some = decimal_nonempty n fits;
}

-- two plain words with a plain byte between them
pub plain_between : (xs ys : List ℕ) (b : ℕ) → is_plain b ≡ true → IsPlain xs → list_all is_plain ys ≡ true
    → IsPlain (xs ++ b ∷ ys)
plain_between xs ys b plain one two = record {
  bytes = list_all-append is_plain xs (b ∷ ys)
      ∙ and_from (list_all is_plain xs) (list_all is_plain (b ∷ ys)) one.bytes
      (and_from (is_plain b) (list_all is_plain ys) plain two);
  some = longer xs (b ∷ ys) one.some;
}
  where
    longer : (xs ys : List ℕ) → 0 < length xs → 0 < length (xs ++ ys)
    longer [] ys some = absurd (omega arith)
    longer (x ∷ xs) ys some = omega arith

magnitude_plain : (s n : ℕ) → s ≤ 6 → n < 2 ^ 64 → IsPlain (magnitude s n)
magnitude_plain zero n few fits = decimal_plain n fits
magnitude_plain (suc s) n few fits =
    let unit : 0 < 10 ^ suc s = one-le-pow (suc s) 10 (omega arith) in
    let small : n % 10 ^ suc s < 10 ^ suc s = mod-lt n unit in
    let bounded : 10 ^ suc s ≤ 10 ^ 6 = power_of_ten_grows (suc s) 6 few in
    let part_fits : n % 10 ^ suc s < 2 ^ 64 = omega (arith, small, bounded) in
    let whole_fits : n / 10 ^ suc s < 2 ^ 64 = omega (arith, div-le_self n (10 ^ suc s)) in
    let least = decimal (n % 10 ^ suc s) in
    let zeros = zeros_digits (suc s - length least) least (digits_decimal numerals (n % 10 ^ suc s) part_fits) in
    rw (with_parts s n)
    (plain_between (decimal (n / 10 ^ suc s)) (wide_decimal (suc s) (n % 10 ^ suc s)) 46 refl
    (decimal_plain (n / 10 ^ suc s) whole_fits) (digits_plain (wide_decimal (suc s) (n % 10 ^ suc s)) zeros))

minus_plain : (w : List ℕ) → IsPlain w → IsPlain (45 ∷ w)
minus_plain w h = record { bytes = h.bytes; some = omega arith }

pub grid_plain : (s : ℕ) (z : ℤ) → s ≤ 6 → unsigned_abs z ≤ 1000000000 → IsPlain (grid_number s z)
grid_plain s (pos n) few small =
    let fits : n < 2 ^ 64 = omega (arith, small) in
    let same : grid_number s (pos n) ≡ magnitude s n =
    ap (λ (b : Bool). cond b (45 ∷ magnitude s n) (magnitude s n)) (le-ltb n 0 (omega arith)) in
    rw same (magnitude_plain s n few fits)
grid_plain s (negsuc n) few small =
    let fits : suc n < 2 ^ 64 = omega (arith, small) in
    minus_plain (magnitude s (suc n)) (magnitude_plain s (suc n) few fits)

-- a number in range has at most so many units
pub in_range_small : (z : ℤ) → is_in_range z ≡ true → unsigned_abs z ≤ 1000000000
in_range_small (pos n) h =
    let most = int_le-true (pos n) (pos 1000000000)
    (and_parts (int_le (neg_ℤ (pos 1000000000)) (pos n)) (int_le (pos n) (pos 1000000000)) h).1 in
    omega (arith, ints, most)
in_range_small (negsuc n) h =
    let least = int_le-true (neg_ℤ (pos 1000000000)) (negsuc n)
    (and_parts (int_le (neg_ℤ (pos 1000000000)) (negsuc n)) (int_le (negsuc n) (pos 1000000000)) h).0 in
    omega (arith, ints, least)

-- ---- INDICES

up_to_digits : (most : ℕ) (ds : List ℕ) → 0 < length ds → list_all is_digit ds ≡ true → value ds ≤ most
    → up_to most ds ≡ Some (value ds)
up_to_digits most ds some digits small =
    ap (λ (b : Bool). cond (not b) None (cond (nat_le (value ds) most) (Some (value ds)) None))
    (and_from (nat_lt 0 (length ds)) (list_all is_digit ds) (lt-ltb 0 (length ds) some) digits)
    ∙ ap (λ (b : Bool). cond b (Some (value ds)) None) (le-leb (value ds) most small)

pub up_to_decimal : (most n : ℕ) → n ≤ most → n < 2 ^ 64 → up_to most (decimal n) ≡ Some n
up_to_decimal most n small fits =
    let spelled = digits_value-decimal numerals n fits in
    up_to_digits most (decimal n) (decimal_nonempty n fits) (digits_decimal numerals n fits) (omega (arith, spelled))
    ∙ ap Some spelled

index_digits : (count : ℕ) (ds : List ℕ) → 0 < length ds → list_all is_digit ds ≡ true
    → index count ds ≡ option_and_then fore (up_to count ds)
index_digits count [] some digits = absurd (omega arith)
index_digits count (b ∷ ds) some digits =
    ap (λ (t : Bool). cond t (option_and_then (back count) (up_to count ds)) (option_and_then fore (up_to count (b ∷ ds))))
    (apart b 45 refl (head_digit b ds digits))

fore_next : (a : ℕ) → fore (a + 1) ≡ Some a
fore_next a =
    ap (λ (b : Bool). cond b None (Some (a + 1 - 1))) (ne_eqb (a + 1) 0 (λ e. absurd (omega (arith, e))))
    ∙ ap Some (omega arith)

-- an index that is written, counted from 1
pub index_written : (count a : ℕ) → a < count → count < 2 ^ 63 → index count (decimal (a + 1)) ≡ Some a
index_written count a below few =
    let fits : a + 1 < 2 ^ 64 = omega arith in
    index_digits count (decimal (a + 1)) (decimal_nonempty (a + 1) fits) (digits_decimal numerals (a + 1) fits)
    ∙ ap (option_and_then fore) (up_to_decimal count (a + 1) (omega arith) fits)
    ∙ fore_next a

-- ---- CORNERS

-- the word of a corner
abbrev pub word_text : ℕ → Option ℕ → List ℕ
word_text a None = decimal a
word_text a (Some t) = decimal a ++ (47 ∷ decimal t)

-- its item, counted from 0
abbrev pub next_of : Option ℕ → Option ℕ
next_of None = None
next_of (Some t) = Some (t + 1)

abbrev pub IsBelow : ℕ → Option ℕ → Type 0
IsBelow n None = Unit {0}
IsBelow n (Some t) = t < n

pub text_word : (a : ℕ) (t : Option ℕ) → corner_text a t ≡ 32 ∷ word_text a t
text_word a None = refl
text_word a (Some t) = refl

pub word_plain : (a n : ℕ) (t : Option ℕ) → a < 2 ^ 63 → n < 2 ^ 63 → IsBelow n t → IsPlain (word_text (a + 1) (next_of t))
word_plain a n None one two below = decimal_plain (a + 1) (omega arith)
word_plain a n (Some t) one two below =
    plain_between (decimal (a + 1)) (decimal (t + 1)) 47 refl (decimal_plain (a + 1) (omega arith))
    (decimal_plain (t + 1) (omega arith)).bytes

pub corner_written : (n : Counts) (a : ℕ) (t : Option ℕ) → a < n.verts → n.verts < 2 ^ 63 → n.textures < 2 ^ 63
    → IsBelow n.textures t
    → corner n (word_text (a + 1) (next_of t)) ≡ Some (record { vert = a; texture = t })
corner_written n a None below few textures t_below =
    let word = decimal (a + 1) in
    let digits = digits_decimal numerals (a + 1) (omega arith) in
    ap (corner_cut n word) (cut_none 47 word refl digits)
    ∙ ap (option_and_then (λ (v : ℕ). let k : Corner = record { vert = v; texture = None } in Some k))
    (index_written n.verts a below few)
corner_written n a (Some t) below few textures t_below =
    let first = decimal (a + 1) in
    let second = decimal (t + 1) in
    let digits = digits_decimal numerals (a + 1) (omega arith) in
    let digits_2 = digits_decimal numerals (t + 1) (omega arith) in
    ap (corner_cut n (first ++ 47 ∷ second)) (cut_at 47 first second refl digits)
    ∙ ap (rest_cut n first second) (cut_none 47 second refl digits_2)
    ∙ ap (option_and_then (λ (v : ℕ). option_and_then (λ (u : ℕ). let k : Corner = record { vert = v; texture = Some u } in Some k)
    (index n.textures second))) (index_written n.verts a below few)
    ∙ ap (option_and_then (λ (u : ℕ). let k : Corner = record { vert = a; texture = Some u } in Some k))
    (index_written n.textures t t_below textures)

-- ---- SMOOTHING GROUPS

no_letter : (b : ℕ) (ds rest : List ℕ) → is_digit b ≡ true → pointwise nat_eq (b ∷ ds) (111 ∷ rest) ≡ false
no_letter b ds rest digit = ap (λ (t : Bool). t && pointwise nat_eq ds rest) (apart b 111 refl digit)

smooth_digits : (ds : List ℕ) → 0 < length ds → list_all is_digit ds ≡ true → smooth_word ds ≡ up_to 1000000000 ds
smooth_digits [] some digits = absurd (omega arith)
smooth_digits (b ∷ ds) some digits =
    let digit = head_digit b ds digits in
    ap (λ (t : Bool). cond t (Some 0) (cond (pointwise nat_eq (b ∷ ds) (codes "on")) (Some 1) (up_to 1000000000 (b ∷ ds))))
    (no_letter b ds (codes "ff") digit)
    ∙ ap (λ (t : Bool). cond t (Some 1) (up_to 1000000000 (b ∷ ds))) (no_letter b ds (codes "n") digit)

pub smooth_written : (n : ℕ) → n ≤ 1000000000 → smooth_of (decimal n ∷ []) ≡ Some n
smooth_written n small =
    let fits : n < 2 ^ 64 = omega arith in
    smooth_digits (decimal n) (decimal_nonempty n fits) (digits_decimal numerals n fits)
    ∙ up_to_decimal 1000000000 n small fits

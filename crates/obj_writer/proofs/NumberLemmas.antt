-- Lemmas on powers of ten.
use Rattle.std.proofs.Common.{◌≡◌, ◌++◌, ◌∙◌, ◌-◌, zero, suc, List, length, take, codes, ap}
use Rattle.std.specs.Fmt.{decimal}
use Rattle.std.specs.List.{repeat}
use Rattle.obj_writer.specs.Written.{wide_decimal}
use Rattle.std.proofs.Common.{◌+◌, ◌≤◌, ◌<◌, ◌^◌, ℕ, ℤ, pos, negsuc, neg_ℤ, ◌*ℤ◌, ◌<ℤ◌, unsigned_abs, refl, arith}
use Rattle.std.proofs.Common.{lit<}
use Rattle.std.specs.Int.RustNames.{FitsSigned}
use Rattle.std.proofs.lemmas.Int.{fits_signed_mul, ints}
use mir.Syntax.{w64}
use Rattle.std.proofs.Math.Nat.{pow-le-pow_right, one-le-pow}

-- a grid number has at most a million units to one
pub unit_small : (scale : ℕ) → scale ≤ 6 → 10 ^ scale ≤ 10 ^ 6
unit_small scale h = pow-le-pow_right (omega arith) h

pub unit_fits : (scale : ℕ) → scale ≤ 6 → 10 ^ scale < 2 ^ 64
unit_fits scale h = let small = unit_small scale h in omega arith

-- there is at least one
pub unit_positive : (scale : ℕ) → 1 ≤ 10 ^ scale
unit_positive scale = one-le-pow scale 10 (omega arith)

abs_below : (n : ℤ) → neg_ℤ (pos (10 ^ 9)) <ℤ n → n <ℤ pos (10 ^ 9) → unsigned_abs n ≤ 10 ^ 9
abs_below (pos m) above below = let same : unsigned_abs (pos m) ≡ m = refl in omega (arith, ints)
abs_below (negsuc m) above below = let same : unsigned_abs (negsuc m) ≡ m + 1 = omega arith in omega (arith, ints)

-- a number of at most 9 digits in units fits a signed word of 64 bits
pub units_fit : (scale : ℕ) (n : ℤ) → scale ≤ 6 → neg_ℤ (pos (10 ^ 9)) <ℤ n → n <ℤ pos (10 ^ 9)
    → FitsSigned w64 (n *ℤ pos (10 ^ scale))
units_fit scale n h above below =
    fits_signed_mul w64 n (pos (10 ^ scale)) (10 ^ 9) (10 ^ 6) (abs_below n above below) (unit_small scale h) (lit< tt)

-- the first so many of six zeros
pub zeros_told : (k : ℕ) → k ≤ 6 → take k (codes "000000") ≡ repeat k (codes "0")
zeros_told zero h = refl
zeros_told (suc zero) h = refl
zeros_told (suc (suc zero)) h = refl
zeros_told (suc (suc (suc zero))) h = refl
zeros_told (suc (suc (suc (suc zero)))) h = refl
zeros_told (suc (suc (suc (suc (suc zero))))) h = refl
zeros_told (suc (suc (suc (suc (suc (suc zero)))))) h = refl
zeros_told (suc (suc (suc (suc (suc (suc (suc k))))))) h = absurd (omega arith)

-- zeros and digits make a number of the wanted width
pub wide_told : (width n : ℕ) (digits zeros : List ℕ) → width ≤ 6 → digits ≡ decimal n
    → zeros ≡ take (width - length digits) (codes "000000") → zeros ++ digits ≡ wide_decimal width n
wide_told width n digits zeros few is are =
    ap (λ (t : List ℕ). t ++ digits) (are ∙ zeros_told (width - length digits) (omega arith))
    ∙ ap (λ (ds : List ℕ). repeat (width - length ds) (codes "0") ++ ds) is

-- Parts of numbers, mixes and sums.
use Rattle.std.proofs.Common.{◌≡◌, ℕ, ◌+◌, ◌*◌, ◌/◌, ◌<◌, ◌≤◌, ◌^◌, ℤ, pos, negsuc, ◌+ℤ◌, ◌-ℤ◌, ◌*ℤ◌, zero, suc, arith, neg_ℤ, FitsSigned, to_z, of_z, lit<, ◌∙◌, w64}
use Rattle.std.proofs.Math.Nat.{mul-le-mul_left}
use Rattle.std.specs.Prelude.{◌≤ℤ◌, ◌<ℤ◌, unsigned_abs}
use Rattle.std.proofs.lemmas.Int.{ints, clamps, to_z-of_z, fits_signed_mul}
use Rattle.std.specs.Int.{int_div_euclid}
use Rattle.std.proofs.lemmas.Nat.{div_below}
use native.Mathlib.Nat.{div-le_of_le-mul, div-eq_of_lt}
use mir.Syntax.{w128}
use Rattle.cust_data.specs.Mixing.{floor_div, IsBetween}

-- a part of a natural number is no more than the number
part_le : (n m d : ℕ) → m ≤ d → n * m / d ≤ n
part_le n m d le = div-le_of_le-mul d (omega (arith, mul-le-mul_left n le))

-- the whole is between 0 and a natural number, where it isn't above it
between_pos : (n q : ℕ) → q ≤ n → IsBetween (pos 0) (pos n) (pos q)
between_pos n q le = record { low = omega (arith, ints, clamps); high = omega (arith, ints, clamps) }

-- the same below 0
between_neg : (n q : ℕ) → q ≤ n → IsBetween (pos 0) (negsuc n) (negsuc q)
between_neg n q le = record { low = omega (arith, ints, clamps); high = omega (arith, ints, clamps) }

-- nothing lies between 0 and any number
between_none : (n : ℕ) → IsBetween (pos 0) (negsuc n) (pos 0)
between_none n = record { low = omega (arith, ints, clamps); high = omega (arith, ints, clamps) }

-- a negative number's part
below : (n k d : ℕ) → 0 < d → k ≤ suc n * d → IsBetween (pos 0) (negsuc n) (int_div_euclid (neg_ℤ (pos k)) (pos d))
below n zero d some le = rw (div-eq_of_lt some) (between_none n)
below n (suc k) d some le = between_neg n (k / d) (omega (arith, div_below k d (suc n) some (omega arith)))

-- a part of a number, from none of it to the whole, is between 0 and the number
pub share_between : (z num den : ℤ) → pos 0 ≤ℤ num → num ≤ℤ den → pos 0 <ℤ den
    → IsBetween (pos 0) z (floor_div (z *ℤ num) den)
share_between (pos n) (pos m) (pos d) from until parts = between_pos n (n * m / d) (part_le n m d (omega (arith, ints)))
share_between (negsuc n) (pos m) (pos d) from until parts =
    below n (suc n * m) d (omega (arith, ints)) (mul-le-mul_left (suc n) (omega (arith, ints)))
share_between z (negsuc m) den from until parts = absurd (omega (arith, ints))
share_between z (pos m) (negsuc d) from until parts = absurd (omega (arith, ints))

-- the product of a number below 2^64 in size and one below 2^63 fits 128 bits
pub product_fits : (whole num den : ℤ) → unsigned_abs whole < 2 ^ 64 → pos 0 ≤ℤ num → num ≤ℤ den
    → den <ℤ pos 9223372036854775808 → FitsSigned w128 (whole *ℤ num)
product_fits whole (pos m) (pos d) small from until few =
    fits_signed_mul w128 whole (pos m) 18446744073709551615 9223372036854775807 (omega arith) (omega (arith, ints))
    (lit< tt)
product_fits whole (negsuc m) den small from until few = absurd (omega (arith, ints))
product_fits whole (pos m) (negsuc d) small from until few = absurd (omega (arith, ints))

-- a number that is cast and back
pub share_is : (whole num den r : ℤ) → FitsSigned w128 whole → FitsSigned w128 num → FitsSigned w128 den
    → FitsSigned w128 (whole *ℤ num)
    → r ≡ int_div_euclid (to_z w128 (of_z w128 (to_z w128 (of_z w128 whole) *ℤ to_z w128 (of_z w128 num))))
    (to_z w128 (of_z w128 den))
    → r ≡ floor_div (whole *ℤ num) den
share_is whole num den r whole_fits num_fits den_fits product_fits e = e ∙ simp to_z-of_z

-- on the way from a to b, as on the way from 0 to their difference
pub mixed_between : (a b step : ℤ) → IsBetween (pos 0) (b -ℤ a) step → IsBetween a b (a +ℤ step)
mixed_between a b step h = record { low = omega (arith, ints, clamps); high = omega (arith, ints, clamps) }

-- what lies between two numbers of 64 bits fits 64 bits
pub between_fits : (a b r : ℤ) → FitsSigned w64 a → FitsSigned w64 b → IsBetween a b r → FitsSigned w64 r
between_fits a b r a_fits b_fits h = omega (arith, ints, clamps)

-- so many numbers of 64 bits have a sum within these bounds
pub record SumWithin (count : ℕ) (sum : ℤ) : Type 0 where
  pub low : neg_ℤ (pos (count * 9223372036854775808)) ≤ℤ sum
  pub high : sum ≤ℤ pos (count * 9223372036854775807)

-- one number more
pub within_more : (count : ℕ) (sum value : ℤ) → SumWithin count sum → FitsSigned w64 value
    → SumWithin (count + 1) (sum +ℤ value)
within_more count sum value h fits = record { low = omega (arith, ints); high = omega (arith, ints) }

-- the sum fits 128 bits
pub sum_fits : (count : ℕ) (sum : ℤ) → SumWithin count sum → count < 2 ^ 64 → FitsSigned w128 sum
sum_fits count sum h few = omega (arith, ints)

-- and their mean 64 bits
pub mean_fits : (count : ℕ) (sum : ℤ) → SumWithin count sum → 0 < count → FitsSigned w64 (floor_div sum (pos count))
mean_fits count (pos n) h some =
    let q : n / count ≤ 9223372036854775807 = div-le_of_le-mul count (omega (arith, ints)) in
    record { sfits = omega arith }
mean_fits count (negsuc n) h some = record { sfits = div_below n count 9223372036854775808 some (omega (arith, ints)) }

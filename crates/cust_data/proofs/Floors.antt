-- What rounding down means.
use Rattle.std.proofs.Common.{◌≡◌, ℕ, ◌+◌, ◌-◌, ◌*◌, ◌/◌, ◌%◌, ◌<◌, ℤ, pos, negsuc, ◌+ℤ◌, ◌-ℤ◌, ◌*ℤ◌, neg_ℤ, zero, suc, arith, refl, sym, ap, subst, ◌∙◌}
use Rattle.std.specs.Prelude.{◌≤ℤ◌, ◌<ℤ◌}
use Rattle.std.proofs.lemmas.Int.{ints}
use Rattle.std.specs.Int.{int_div_euclid}
use native.Mathlib.Nat.{mul-zero, div-add-mod, mod-lt, div-eq_of_lt, div-eq_of_eq-mul_left}
use Rattle.std.proofs.lemmas.Nat.{div-mul-add}
use Rattle.cust_data.specs.Mixing.{floor_div, mix}

-- q times d is at most n, which is below one time more
at_floor : (n q r d : ℕ) → d * q + r ≡ n → r < d → ((pos q *ℤ pos d) ≤ℤ pos n) × (pos n <ℤ ((pos q +ℤ pos 1) *ℤ pos d))
at_floor n q r d e small = (omega (arith, ints), omega (arith, ints))

-- the same below 0
below_floor : (n q r d : ℕ) → d * q + r ≡ n → r < d
    → ((negsuc q *ℤ pos d) ≤ℤ negsuc n) × (negsuc n <ℤ ((negsuc q +ℤ pos 1) *ℤ pos d))
below_floor n zero r d e small = (omega (arith, ints), omega (arith, ints))
below_floor n (suc q) r d e small =
    let next : negsuc (suc q) +ℤ pos 1 ≡ negsuc q = omega (arith, ints) in
    let P = λ (z : ℤ). negsuc n <ℤ (z *ℤ pos d) in
    (omega (arith, ints), subst P (sym next) (omega (arith, ints)))

pub quotient_is_floor : (n : ℤ) (d : ℕ) → 0 < d
    → ((floor_div n (pos d) *ℤ pos d) ≤ℤ n) × (n <ℤ ((floor_div n (pos d) +ℤ pos 1) *ℤ pos d))
quotient_is_floor (pos n) d some = at_floor n (n / d) (n % d) d (div-add-mod n d) (mod-lt n some)
quotient_is_floor (negsuc n) d some = below_floor n (n / d) (n % d) d (div-add-mod n d) (mod-lt n some)

-- none of a number
none_of : (z : ℤ) (d : ℕ) → 0 < d → floor_div (z *ℤ pos 0) (pos d) ≡ pos 0
none_of (pos n) d some = ap (λ (k : ℕ). int_div_euclid (pos k) (pos d)) (mul-zero n) ∙ ap pos (div-eq_of_lt some)
none_of (negsuc n) d some = ap (λ (k : ℕ). int_div_euclid (neg_ℤ (pos k)) (pos d)) (mul-zero (suc n))
    ∙ ap pos (div-eq_of_lt some)

-- so many times d, below 0
all_below : (k n d : ℕ) → 0 < d → k ≡ suc n * d → int_div_euclid (neg_ℤ (pos k)) (pos d) ≡ negsuc n
all_below zero n d some e = absurd (omega arith)
all_below (suc k) n d some e =
    let rest : k ≡ n * d + (d - 1) = omega arith in
    ap (λ (j : ℕ). negsuc (j / d)) rest ∙ ap negsuc (div-mul-add n d (d - 1) (omega arith))

-- all of it
all_of : (z : ℤ) (d : ℕ) → 0 < d → floor_div (z *ℤ pos d) (pos d) ≡ z
all_of (pos n) d some = ap pos (div-eq_of_eq-mul_left some refl)
all_of (negsuc n) d some = all_below (suc n * d) n d some refl

pub mix_has_ends : (a b : ℤ) (d : ℕ) → 0 < d → (mix a b (pos 0) (pos d) ≡ a) × (mix a b (pos d) (pos d) ≡ b)
mix_has_ends a b d some = (
  ap (λ (x : ℤ). a +ℤ x) (none_of (b -ℤ a) d some) ∙ omega (arith, ints),
  ap (λ (x : ℤ). a +ℤ x) (all_of (b -ℤ a) d some) ∙ omega (arith, ints),
)

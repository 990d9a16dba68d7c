-- Bounds of scaled coordinates.
use Rattle.std.proofs.Common.{◌≡◌, ◌≤◌, ◌*◌, ℕ, ℤ, pos, neg_ℤ, ◌+ℤ◌, ◌-ℤ◌, ◌*ℤ◌, true, ◌&&◌, int_le, FitsSigned, arith, lit<, sym, subst, w64}
use Rattle.std.specs.Prelude.{◌<ℤ◌, unsigned_abs}
use Rattle.std.proofs.lemmas.Bool.{and_parts}
use Rattle.std.proofs.lemmas.Int.{ints, clamps, unsigned_abs-mul, fits_signed_mul}
use Rattle.std.proofs.Math.Nat.{mul-le-mul_left}
use mir.Syntax.{w128}
use Rattle.cust_data.specs.Mixing.{floor_div, IsBetween}
use Rattle.cust_data.proofs.Mixes.{share_between}
use Rattle.mesh_model.specs.Valid.{is_in_range}
use Rattle.op_basic.specs.Motions.{is_ratio}

pub record AreBounds (c about num den : ℤ) : Type 0 where
  pub way : unsigned_abs (c -ℤ about) ≤ 2000000000
  pub factor : unsigned_abs num ≤ 1000000
  pub some : pos 0 <ℤ den

pub bounds : (c about num den : ℤ) → is_in_range c ≡ true → is_in_range about ≡ true → is_ratio num den ≡ true
    → AreBounds c about num den
bounds c about num den in_c in_about ratio =
    let low_c = (and_parts (int_le (neg_ℤ (pos 1000000000)) c) (int_le c (pos 1000000000)) in_c).0 in
    let high_c = (and_parts (int_le (neg_ℤ (pos 1000000000)) c) (int_le c (pos 1000000000)) in_c).1 in
    let low_a = (and_parts (int_le (neg_ℤ (pos 1000000000)) about) (int_le about (pos 1000000000)) in_about).0 in
    let high_a = (and_parts (int_le (neg_ℤ (pos 1000000000)) about) (int_le about (pos 1000000000)) in_about).1 in
    let dens = and_parts (int_le (pos 1) den && int_le den (pos 1000000))
    (int_le (neg_ℤ (pos 1000000)) num && int_le num (pos 1000000)) ratio in
    let den_both = and_parts (int_le (pos 1) den) (int_le den (pos 1000000)) dens.0 in
    let num_both = and_parts (int_le (neg_ℤ (pos 1000000)) num) (int_le num (pos 1000000)) dens.1 in
    let low_n = num_both.0 in
    let high_n = num_both.1 in
    let low_d = den_both.0 in
    record { way = grind (arith, ints); factor = grind (arith, ints); some = grind (arith, ints) }

pub product_small : (c about num den : ℤ) → AreBounds c about num den
    → unsigned_abs ((c -ℤ about) *ℤ num) ≤ 2000000000000000
product_small c about num den b =
    let all = unsigned_abs-mul (c -ℤ about) num in
    subst (λ (n : ℕ). n ≤ 2000000000000000) (sym all)
    (product_le (unsigned_abs (c -ℤ about)) (unsigned_abs num) b.way b.factor)
  where
    product_le : (m n : ℕ) → m ≤ 2000000000 → n ≤ 1000000 → m * n ≤ 2000000000000000
    product_le m n less few = omega (arith, mul-le-mul_left m few, mul_le_right m less)
      where
        mul_le_right : (m : ℕ) → m ≤ 2000000000 → m * 1000000 ≤ 2000000000000000
        mul_le_right m less = omega arith

pub product_fits : (c about num den : ℤ) → AreBounds c about num den → FitsSigned w128 ((c -ℤ about) *ℤ num)
product_fits c about num den b =
    fits_signed_mul w128 (c -ℤ about) num 2000000000 1000000 b.way b.factor (lit< tt)

pub quotient_small : (n d : ℤ) → pos 0 <ℤ d → unsigned_abs (floor_div n d) ≤ unsigned_abs n
quotient_small n d some =
    let one : n *ℤ pos 1 ≡ n = omega (arith, ints) in
    let between = share_between n (pos 1) d (omega (arith, ints)) (omega (arith, ints)) some in
    let at_n : IsBetween (pos 0) n (floor_div n d) = subst (λ (m : ℤ). IsBetween (pos 0) n (floor_div m d)) one between in
    within n (floor_div n d) at_n
  where
    within : (n q : ℤ) → IsBetween (pos 0) n q → unsigned_abs q ≤ unsigned_abs n
    within n q h = let low = h.low in let high = h.high in omega (arith, ints, clamps)

pub sum_fits : (about step : ℤ) → FitsSigned w64 about → unsigned_abs step ≤ 2000000000000000
    → FitsSigned w128 (about +ℤ step)
sum_fits about step fits small = omega (arith, ints)

use Rattle.std.proofs.Common.{◌≡◌, ◌<◌, ◌+◌, ◌^◌, ℕ, ℤ, pos, ◌+ℤ◌, FitsSigned, to_z, of_z, w64, length, get_or, arith, rules, refl, ap, ◌∙◌, sym}
use Rattle.std.proofs.lemmas.Int.{ints, to_z-of_z, to_z_pos}
use Rattle.std.proofs.lemmas.List.Sums.{fold_more}
use Rattle.std.proofs.lemmas.List.{take_all}
use mir.Syntax.{w128}
use Rattle.cust_data.specs.Mixing.{int_sum, floor_div}
use Rattle.cust_data.proofs.Mixes.{SumWithin, within_more, sum_fits, mean_fits}
use Rattle.cust_data.proofs.mixing.floor_mean.Goals as goal
use Rattle.cust_data.proofs.mixing.floor_mean.Goals.{After-from-sum, After-loop-value, After-floor_div}

-- nothing is summed
pub loop-value-init : goal.loop-value-init
loop-value-init c = (refl, record { low = omega (arith, ints); high = omega (arith, ints) })

-- it is what the code adds
added : (c : After-from-sum) → to_z w128 c.loop-value.sum-bits +ℤ to_z w128 (of_z w128 c.from-sum.result)
    ≡ to_z w128 c.loop-value.sum-bits +ℤ get_or c.args.values.now c.loop-value.value-index (pos 0)
added c =
    let x : FitsSigned w64 (get_or c.args.values.now c.loop-value.value-index (pos 0)) = search rules in
    let r : FitsSigned w128 c.from-sum.result = record { sfits = c.from-sum.type_inv } in
    let e : c.from-sum.result ≡ get_or c.args.values.now c.loop-value.value-index (pos 0) =
    c.from-sum.ensures ∙ to_z-of_z w64 _ x in
    simp to_z-of_z (ap (λ (v : ℤ). to_z w128 c.loop-value.sum-bits +ℤ v) e)

-- it is within the bounds of one value more
next_within : (c : After-from-sum) → SumWithin (c.loop-value.value-index + 1)
    (to_z w128 c.loop-value.sum-bits +ℤ get_or c.args.values.now c.loop-value.value-index (pos 0))
next_within c =
    let x : FitsSigned w64 (get_or c.args.values.now c.loop-value.value-index (pos 0)) = search rules in
    within_more c.loop-value.value-index (to_z w128 c.loop-value.sum-bits)
    (get_or c.args.values.now c.loop-value.value-index (pos 0)) c.loop-value.invariant.1 x

next_fits : (c : After-from-sum) → FitsSigned w128 (to_z w128 c.loop-value.sum-bits +ℤ get_or c.args.values.now
    c.loop-value.value-index (pos 0))
next_fits c = sum_fits (c.loop-value.value-index + 1) _ (next_within c) (omega arith)

pub overflow_add-sum : goal.overflow_add-sum
overflow_add-sum c = rw (added c) (next_fits c)

pub loop-value-preserved : goal.loop-value-preserved
loop-value-preserved c =
    rw (added c, to_z-of_z w128 _ (next_fits c)) (
      ap (λ (s : ℤ). s +ℤ get_or c.args.values.now c.loop-value.value-index (pos 0)) c.loop-value.invariant.0
          ∙ sym (fold_more ◌+ℤ◌ (pos 0) c.args.values.now c.loop-value.value-index (pos 0) c.loop-value-test.true),
      next_within c,
    )

-- the count in 128 bits is the count
count_is : (n : ℕ) → n < 2 ^ 64 → to_z w128 n ≡ pos n
count_is n few = to_z_pos w128 n (omega arith)

pub floor_div-requires : goal.floor_div-requires
floor_div-requires c =
    let few : length c.args.values.now < 2 ^ 64 = omega arith in
    rw (count_is (length c.args.values.now) few) (omega (arith, ints))

-- the quotient is the mean, and fits
quotient_is : (c : After-floor_div) → c.floor_div.result
    ≡ floor_div (int_sum c.args.values.now) (pos (length c.args.values.now))
quotient_is c =
    let few : length c.args.values.now < 2 ^ 64 = omega arith in
    let sum : to_z w128 c.loop-value.sum-bits ≡ int_sum c.args.values.now =
    c.loop-value.invariant.0 ∙ ap int_sum (take_all c.loop-value.value-index c.args.values.now
    c.loop-value-test.false) in
    rw (← sum, ← count_is (length c.args.values.now) few) c.floor_div.ensures

quotient_fits : (c : After-floor_div) → FitsSigned w64 c.floor_div.result
quotient_fits c =
    let count : c.loop-value.value-index ≡ length c.args.values.now = omega arith in
    let few : length c.args.values.now < 2 ^ 64 = omega arith in
    let within : SumWithin (length c.args.values.now) (to_z w128 c.loop-value.sum-bits) =
    rw (← count) c.loop-value.invariant.1 in
    rw (c.floor_div.ensures, count_is (length c.args.values.now) few)
    (mean_fits (length c.args.values.now) (to_z w128 c.loop-value.sum-bits) within c.requires)

pub overflow_cast-result : goal.overflow_cast-result
overflow_cast-result c =
    let r : FitsSigned w128 c.floor_div.result = record { sfits = c.floor_div.type_inv } in
    rw (to_z-of_z w128 c.floor_div.result r) (quotient_fits c)

pub returns : goal.returns
returns c =
    let r : FitsSigned w128 c.floor_div.result = record { sfits = c.floor_div.type_inv } in
    rw (to_z-of_z w128 c.floor_div.result r, to_z-of_z w64 c.floor_div.result (quotient_fits c)) (quotient_is c)

use Rattle.std.proofs.Common.{◌≡◌, ℤ, ◌+ℤ◌, ◌*ℤ◌, ◌-ℤ◌, FitsSigned, to_z, of_z, arith, ◌∙◌, ap, w64}
use Rattle.std.proofs.lemmas.Int.{ints, to_z-of_z}
use mir.Syntax.{w128}
use Rattle.cust_data.specs.Mixing.{floor_div, IsBetween}
use Rattle.cust_data.proofs.Mixes.{mixed_between, between_fits}
use Rattle.cust_data.proofs.mixing.mix.Goals as goal
use Rattle.cust_data.proofs.mixing.mix.Goals.{After-share-step}

-- the two numbers in 128 bits, and their difference, are the numbers
difference_fits : (c : After-share-step) → FitsSigned w128 (c.from-b.result -ℤ c.from-a.result)
difference_fits c =
    let a : FitsSigned w64 c.args.a = c.ranges.a in
    let b : FitsSigned w64 c.args.b = c.ranges.b in
    rw (c.from-a.ensures, c.from-b.ensures) (omega (arith, ints))

-- the step is the floor of the part of the difference
step_is : (c : After-share-step) → c.share-step.result ≡ floor_div ((c.args.b -ℤ c.args.a) *ℤ c.args.num) c.args.den
step_is c =
    let a_fits : FitsSigned w128 c.from-a.result = record { sfits = c.from-a.type_inv } in
    let b_fits : FitsSigned w128 c.from-b.result = record { sfits = c.from-b.type_inv } in
    let num_fits : FitsSigned w128 c.from.result = record { sfits = c.from.type_inv } in
    let den_fits : FitsSigned w128 c.from-2.result = record { sfits = c.from-2.type_inv } in
    let difference = difference_fits c in
    let a : c.from-a.result ≡ c.args.a = c.from-a.ensures ∙ to_z-of_z w64 c.args.a c.ranges.a in
    let b : c.from-b.result ≡ c.args.b = c.from-b.ensures ∙ to_z-of_z w64 c.args.b c.ranges.b in
    let num : c.from.result ≡ c.args.num = c.from.ensures ∙ to_z-of_z w64 c.args.num c.ranges.num in
    let den : c.from-2.result ≡ c.args.den = c.from-2.ensures ∙ to_z-of_z w64 c.args.den c.ranges.den in
    let part = simp to_z-of_z at c.share-step.ensures.part in
    rw (← a, ← b, ← num, ← den) part

-- a and the step make a number between a and b
lies_between : (c : After-share-step) → IsBetween c.args.a c.args.b (c.args.a +ℤ c.share-step.result)
lies_between c =
    let a_fits : FitsSigned w128 c.from-a.result = record { sfits = c.from-a.type_inv } in
    let b_fits : FitsSigned w128 c.from-b.result = record { sfits = c.from-b.type_inv } in
    let difference = difference_fits c in
    let a : c.from-a.result ≡ c.args.a = c.from-a.ensures ∙ to_z-of_z w64 c.args.a c.ranges.a in
    let b : c.from-b.result ≡ c.args.b = c.from-b.ensures ∙ to_z-of_z w64 c.args.b c.ranges.b in
    let between = simp to_z-of_z at c.share-step.ensures.between in
    mixed_between c.args.a c.args.b c.share-step.result (rw (← a, ← b) between)

-- so the sum in 128 bits is that number
sum_is : (c : After-share-step) → to_z w128 (of_z w128 c.from-a.result) +ℤ to_z w128 (of_z w128 c.share-step.result)
    ≡ c.args.a +ℤ c.share-step.result
sum_is c =
    let a_fits : FitsSigned w128 c.from-a.result = record { sfits = c.from-a.type_inv } in
    let step_fits : FitsSigned w128 c.share-step.result = record { sfits = c.share-step.type_inv } in
    let a : c.from-a.result ≡ c.args.a = c.from-a.ensures ∙ to_z-of_z w64 c.args.a c.ranges.a in
    simp to_z-of_z (ap (λ (x : ℤ). x +ℤ c.share-step.result) a)

sum_fits : (c : After-share-step) → FitsSigned w64 (c.args.a +ℤ c.share-step.result)
sum_fits c = between_fits c.args.a c.args.b (c.args.a +ℤ c.share-step.result) c.ranges.a c.ranges.b (lies_between c)

sum_fits_wide : (c : After-share-step) → FitsSigned w128 (c.args.a +ℤ c.share-step.result)
sum_fits_wide c = let fits = sum_fits c in omega (arith, ints, fits)

pub overflow_add-result : goal.overflow_add-result
overflow_add-result c = rw (sum_is c) (sum_fits_wide c)

pub overflow_cast-result : goal.overflow_cast-result
overflow_cast-result c = rw (sum_is c, to_z-of_z w128 (c.args.a +ℤ c.share-step.result) (sum_fits_wide c)) (sum_fits c)

pub returns : goal.returns
returns c =
    let sum = c.args.a +ℤ c.share-step.result in
    rw (
      sum_is c,
      to_z-of_z w128 (c.args.a +ℤ c.share-step.result) (sum_fits_wide c),
      to_z-of_z w64 (c.args.a +ℤ c.share-step.result) (sum_fits c),
    )
    record { mixed = ap (λ (x : ℤ). c.args.a +ℤ x) (step_is c); between = lies_between c }

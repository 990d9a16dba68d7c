use Rattle.std.proofs.Common.{ℤ, FitsSigned, ◌+ℤ◌, cond, Some, None, arith, ap, ◌∙◌, w64}
use Rattle.std.proofs.lemmas.Int.{ints, to_z-of_z}
use mir.Syntax.{w128}
use Rattle.mesh_model.specs.Valid.{is_in_range}
use Rattle.op_basic.proofs.Scalings.{sum_fits}
use Rattle.op_basic.proofs.coordinates.scaled.Goals as goal

pub overflow_add-about : goal.overflow_add-about
overflow_add-about c =
    let a64 : FitsSigned w64 c.args.about = c.ranges.about in
    let a128 : FitsSigned w128 c.args.about = omega (arith, ints) in
    let step : FitsSigned w128 c.stretched-step.result = record { sfits = c.stretched-step.type_inv } in
    let sum = sum_fits c.args.about c.stretched-step.result a64 c.stretched-step.ensures.small in
    simp to_z-of_z sum

pub returns : goal.returns
returns c =
    let a64 : FitsSigned w64 c.args.about = c.ranges.about in
    let a128 : FitsSigned w128 c.args.about = omega (arith, ints) in
    let step : FitsSigned w128 c.stretched-step.result = record { sfits = c.stretched-step.type_inv } in
    let sum = sum_fits c.args.about c.stretched-step.result a64 c.stretched-step.ensures.small in
    let c64 : FitsSigned w64 c.args.c = c.ranges.c in
    let n64 : FitsSigned w64 c.args.num = c.ranges.num in
    let d64 : FitsSigned w64 c.args.den = c.ranges.den in
    let told = simp to_z-of_z at c.in_range.ensures in
    let exact = simp to_z-of_z at c.stretched-step.ensures.exact in
    told ∙ ap (λ (z : ℤ). cond (is_in_range (c.args.about +ℤ z)) (Some (c.args.about +ℤ z)) None)
    exact

use Rattle.std.proofs.Common.{FitsSigned, ◌+ℤ◌, arith, w64}
use Rattle.std.proofs.lemmas.Int.{ints, to_z-of_z}
use mir.Syntax.{w128}
use Rattle.op_basic.proofs.coordinates.shifted.Goals as goal

pub returns : goal.returns
returns c =
    let a : FitsSigned w64 c.args.c = c.ranges.c in
    let b : FitsSigned w64 c.args.by = c.ranges.by in
    let a_wide : FitsSigned w128 c.args.c = omega (arith, ints) in
    let b_wide : FitsSigned w128 c.args.by = omega (arith, ints) in
    let sum : FitsSigned w128 (c.args.c +ℤ c.args.by) = omega (arith, ints) in
    simp to_z-of_z at c.in_range.ensures

use Rattle.std.proofs.Common.{FitsSigned, ◌-ℤ◌, ◌*ℤ◌, pos, arith, w64}
use Rattle.std.proofs.lemmas.Int.{ints, to_z-of_z}
use mir.Syntax.{w128}
use Rattle.op_basic.proofs.coordinates.mirrored.Goals as goal

pub returns : goal.returns
returns c =
    let a : FitsSigned w64 c.args.c = c.ranges.c in
    let b : FitsSigned w64 c.args.about = c.ranges.about in
    let a_wide : FitsSigned w128 c.args.c = omega (arith, ints) in
    let b_wide : FitsSigned w128 c.args.about = omega (arith, ints) in
    let twice : FitsSigned w128 (pos 2 *ℤ c.args.about) = omega (arith, ints) in
    let image : FitsSigned w128 (pos 2 *ℤ c.args.about -ℤ c.args.c) = omega (arith, ints) in
    simp to_z-of_z at c.in_range.ensures

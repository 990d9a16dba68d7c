use Rattle.std.proofs.Common.{◌≡◌, ◌≤◌, ℤ, FitsSigned, ◌-ℤ◌, ◌*ℤ◌, arith, subst, sym, w64}
use Rattle.std.specs.Prelude.{unsigned_abs}
use Rattle.std.proofs.lemmas.Int.{ints, to_z-of_z}
use mir.Syntax.{w128}
use Rattle.cust_data.specs.Mixing.{floor_div}
use Rattle.op_basic.proofs.Scalings.{bounds, product_small, product_fits, quotient_small}
use Rattle.op_basic.proofs.coordinates.stretched.Goals as goal

pub overflow_mul-way : goal.overflow_mul-way
overflow_mul-way c =
    let b = bounds c.args.c c.args.about c.args.num c.args.den c.requires.coordinate c.requires.point c.requires.ratio in
    let c64 : FitsSigned w64 c.args.c = c.ranges.c in
    let a64 : FitsSigned w64 c.args.about = c.ranges.about in
    let n64 : FitsSigned w64 c.args.num = c.ranges.num in
    let c128 : FitsSigned w128 c.args.c = omega (arith, ints) in
    let a128 : FitsSigned w128 c.args.about = omega (arith, ints) in
    let n128 : FitsSigned w128 c.args.num = omega (arith, ints) in
    let way : FitsSigned w128 (c.args.c -ℤ c.args.about) = omega (arith, ints) in
    let fits = product_fits c.args.c c.args.about c.args.num c.args.den b in
    simp to_z-of_z fits

pub floor_div-requires : goal.floor_div-requires
floor_div-requires c =
    let b = bounds c.args.c c.args.about c.args.num c.args.den c.requires.coordinate c.requires.point c.requires.ratio in
    let d64 : FitsSigned w64 c.args.den = c.ranges.den in
    let d128 : FitsSigned w128 c.args.den = omega (arith, ints) in
    simp to_z-of_z b.some

pub returns-clause-exact : goal.returns-clause-exact
returns-clause-exact c =
    let b = bounds c.args.c c.args.about c.args.num c.args.den c.requires.coordinate c.requires.point c.requires.ratio in
    let c64 : FitsSigned w64 c.args.c = c.ranges.c in
    let a64 : FitsSigned w64 c.args.about = c.ranges.about in
    let n64 : FitsSigned w64 c.args.num = c.ranges.num in
    let d64 : FitsSigned w64 c.args.den = c.ranges.den in
    let c128 : FitsSigned w128 c.args.c = omega (arith, ints) in
    let a128 : FitsSigned w128 c.args.about = omega (arith, ints) in
    let n128 : FitsSigned w128 c.args.num = omega (arith, ints) in
    let d128 : FitsSigned w128 c.args.den = omega (arith, ints) in
    let way : FitsSigned w128 (c.args.c -ℤ c.args.about) = omega (arith, ints) in
    let fits = product_fits c.args.c c.args.about c.args.num c.args.den b in
    let result : FitsSigned w128 c.floor_div.result = record { sfits = c.floor_div.type_inv } in
    simp to_z-of_z (simp to_z-of_z at c.floor_div.ensures)

pub returns-clause-small : goal.returns-clause-small
returns-clause-small c =
    let b = bounds c.args.c c.args.about c.args.num c.args.den c.requires.coordinate c.requires.point c.requires.ratio in
    let c64 : FitsSigned w64 c.args.c = c.ranges.c in
    let a64 : FitsSigned w64 c.args.about = c.ranges.about in
    let n64 : FitsSigned w64 c.args.num = c.ranges.num in
    let d64 : FitsSigned w64 c.args.den = c.ranges.den in
    let c128 : FitsSigned w128 c.args.c = omega (arith, ints) in
    let a128 : FitsSigned w128 c.args.about = omega (arith, ints) in
    let n128 : FitsSigned w128 c.args.num = omega (arith, ints) in
    let d128 : FitsSigned w128 c.args.den = omega (arith, ints) in
    let way : FitsSigned w128 (c.args.c -ℤ c.args.about) = omega (arith, ints) in
    let fits = product_fits c.args.c c.args.about c.args.num c.args.den b in
    let result : FitsSigned w128 c.floor_div.result = record { sfits = c.floor_div.type_inv } in
    let exact : c.floor_div.result ≡ floor_div ((c.args.c -ℤ c.args.about) *ℤ c.args.num) c.args.den =
    simp to_z-of_z at c.floor_div.ensures in
    let few = product_small c.args.c c.args.about c.args.num c.args.den b in
    let quotient = quotient_small ((c.args.c -ℤ c.args.about) *ℤ c.args.num) c.args.den b.some in
    let small : unsigned_abs c.floor_div.result ≤ 2000000000000000 =
    subst (λ (z : ℤ). unsigned_abs z ≤ 2000000000000000) (sym exact) (omega arith) in
    simp to_z-of_z small

use Rattle.std.proofs.Common.{FitsSigned, arith, rules}
use Rattle.std.proofs.lemmas.Int.{ints, to_z-of_z}
use mir.Syntax.{w128}
use Rattle.cust_data.proofs.mixing.floor_div.Goals as goal

-- the divisor is above 0
pub div_euclid-requires : goal.div_euclid-requires
div_euclid-requires c =
    let d : FitsSigned w128 c.args.d = c.ranges.d in
    simp to_z-of_z record { nonzero = search (rules, ints); no_overflow = λ minus_one. absurd (omega (arith, ints)) }

use Rattle.std.proofs.Common.{FitsSigned, w64, get_or, pos, rules}
use Rattle.std.proofs.lemmas.Int.{to_z-of_z}
use Rattle.cust_data.proofs.MixedCells.{mixed_more, mixed_all}
use Rattle.cust_data.proofs.column.mix_into.Goals as goal

-- all numbers are mixed
pub returns : goal.returns
returns c =
    let num : FitsSigned w64 c.args.num = c.ranges.num in
    let den : FitsSigned w64 c.args.den = c.ranges.den in
    mixed_all c.args.cell.now c.args.other.now c.loop-k.cell c.args.num c.args.den c.loop-k.k c.requires.wide
    c.loop-k-test.false (simp to_z-of_z at c.loop-k.invariant)

-- one number more is mixed
pub loop-k-preserved : goal.loop-k-preserved
loop-k-preserved c =
    let num : FitsSigned w64 c.args.num = c.ranges.num in
    let den : FitsSigned w64 c.args.den = c.ranges.den in
    let result : FitsSigned w64 c.mix.result = record { sfits = c.mix.type_inv } in
    let x : FitsSigned w64 (get_or c.loop-k.cell c.loop-k.k (pos 0)) = search rules in
    let y : FitsSigned w64 (get_or c.args.other.now c.loop-k.k (pos 0)) = search rules in
    simp to_z-of_z
    (mixed_more c.args.cell.now c.args.other.now c.loop-k.cell c.args.num c.args.den c.mix.result c.loop-k.k
    c.requires.wide c.loop-k-test.true (simp to_z-of_z at c.loop-k.invariant)
    (simp to_z-of_z at c.mix.ensures.mixed))

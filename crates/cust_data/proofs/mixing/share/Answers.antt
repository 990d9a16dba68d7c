use Rattle.std.proofs.Common.{FitsSigned, ◌∙◌}
use Rattle.std.proofs.lemmas.Int.{to_z-of_z}
use mir.Syntax.{w128}
use Rattle.cust_data.proofs.Mixes.{share_between, product_fits, share_is}
use Rattle.cust_data.proofs.mixing.share.Goals as goal

-- the product fits 128 bits
pub overflow_mul-whole : goal.overflow_mul-whole
overflow_mul-whole c =
    let fits = product_fits c.args.whole c.args.num c.args.den c.requires.small c.requires.from c.requires.until
    c.requires.few in
    let w : FitsSigned w128 c.args.whole = c.ranges.whole in
    let n : FitsSigned w128 c.args.num = c.ranges.num in
    simp to_z-of_z fits

-- the divisor is above 0
pub floor_div-requires : goal.floor_div-requires
floor_div-requires c = rw (to_z-of_z w128 c.args.den c.ranges.den) c.requires.parts

-- the quotient is the floor, and lies between
pub returns : goal.returns
returns c =
    let r = c.floor_div.result in
    let fits = product_fits c.args.whole c.args.num c.args.den c.requires.small c.requires.from c.requires.until
    c.requires.few in
    let result : FitsSigned w128 c.floor_div.result = record { sfits = c.floor_div.type_inv } in
    let part = share_is c.args.whole c.args.num c.args.den c.floor_div.result c.ranges.whole c.ranges.num c.ranges.den
    fits c.floor_div.ensures in
    record {
      part = to_z-of_z w128 c.floor_div.result result ∙ part;
      between = rw (to_z-of_z w128 c.floor_div.result result, part)
          (share_between c.args.whole c.args.num c.args.den c.requires.from c.requires.until c.requires.parts);
    }

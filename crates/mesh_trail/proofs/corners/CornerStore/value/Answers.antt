use Rattle.std.proofs.Common.{◌<◌, ◌+◌, ◌*◌, ℤ, Option, Some, length, arith, ap, ◌∙◌, rules, FitsSigned, w64}
use Rattle.std.specs.Vec.{vec_len}
use Rattle.std.proofs.Math.Nat.{mul_comm}
use Rattle.std.proofs.lemmas.Nat.{mul-add-lt}
use Rattle.std.proofs.lemmas.Int.{to_z-of_z}
use Rattle.mesh_trail.proofs.CornerRows.{length-corner_recs, value-corner_recs}
use Rattle.mesh_trail.proofs.Copies.{read_at}
use Rattle.mesh_trail.proofs.corners.CornerStore.value.Goals as goal

-- the number stands within the rows
pub index-requires : goal.index-requires
index-requires c =
    let s = c.self.inside in
    let there : (c.args.from + c.args.i) < length s.pairs.items =
    rw (← c.self.view_is, length-corner_recs s.width s.pairs.items s.values.items) at c.requires.there in
    let within : c.args.k < s.width = rw (← c.self.view_is) at c.requires.within in
    let place = mul-add-lt (c.args.from + c.args.i) s.width c.args.k (vec_len s.pairs) (omega arith) within in
    let turn = mul_comm s.width (vec_len s.pairs) in
    omega (arith, c.self.invariant.rows)

pub overflow_mul-from : goal.overflow_mul-from
overflow_mul-from c =
    let s = c.self.inside in
    let there : (c.args.from + c.args.i) < length s.pairs.items =
    rw (← c.self.view_is, length-corner_recs s.width s.pairs.items s.values.items) at c.requires.there in
    let within : c.args.k < s.width = rw (← c.self.view_is) at c.requires.within in
    let place = mul-add-lt (c.args.from + c.args.i) s.width c.args.k (vec_len s.pairs) (omega arith) within in
    let turn = mul_comm s.width (vec_len s.pairs) in
    omega (arith, c.self.invariant.rows)

pub overflow_add-from-2 : goal.overflow_add-from-2
overflow_add-from-2 c =
    let s = c.self.inside in
    let there : (c.args.from + c.args.i) < length s.pairs.items =
    rw (← c.self.view_is, length-corner_recs s.width s.pairs.items s.values.items) at c.requires.there in
    let within : c.args.k < s.width = rw (← c.self.view_is) at c.requires.within in
    let place = mul-add-lt (c.args.from + c.args.i) s.width c.args.k (vec_len s.pairs) (omega arith) within in
    let turn = mul_comm s.width (vec_len s.pairs) in
    omega (arith, c.self.invariant.rows)

pub returns : goal.returns
returns c =
    let s = c.self.inside in
    let there : (c.args.from + c.args.i) < length s.pairs.items =
    rw (← c.self.view_is, length-corner_recs s.width s.pairs.items s.values.items) at c.requires.there in
    let within : c.args.k < s.width = rw (← c.self.view_is) at c.requires.within in
    let place = mul-add-lt (c.args.from + c.args.i) s.width c.args.k (vec_len s.pairs) (omega arith) within in
    let turn = mul_comm s.width (vec_len s.pairs) in
    let stands : (c.args.from + c.args.i) * s.width + c.args.k < length s.values.items =
    omega (arith, c.self.invariant.rows) in
    let fits : FitsSigned w64 c.index.result.now = search rules in
    rw (← c.self.view_is, to_z-of_z w64 c.index.result.now fits)
    (value-corner_recs s.width s.pairs.items s.values.items (c.args.from + c.args.i) c.args.k there within
    ∙ ap (λ (o : Option ℤ). Some o) (read_at s.values.items ((c.args.from + c.args.i) * s.width + c.args.k)
    c.index.result.now stands c.index.ensures))

pub overflow_add-from : goal.overflow_add-from
overflow_add-from c =
    let s = c.self.inside in
    let there : c.args.from + c.args.i < length s.pairs.items =
    rw (← c.self.view_is, length-corner_recs s.width s.pairs.items s.values.items) at c.requires.there in
    omega arith

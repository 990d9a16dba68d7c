use Rattle.std.proofs.Common.{◌≡◌, ◌≤◌, ◌+◌, ◌*◌, ℕ, ℤ, List, length, take, drop, refl, sym, ap, ◌∙◌, arith}
use Rattle.std.specs.Vec.{vec_len}
use Rattle.mesh_trail.specs.Kept.{KeptCorners, corner_recs}
use Rattle.mesh_trail.proofs.CornerRows.{length-corner_recs, part_bounds, part_rows}
use Rattle.mesh_trail.proofs.corners.CornerStore.copy_rows.Goals as goal

pub overflow_mul-from : goal.overflow_mul-from
overflow_mul-from c =
    let s = c.self.inside in
    let within : c.args.from + c.args.count ≤ length s.pairs.items =
    rw (← c.self.view_is, length-corner_recs s.width s.pairs.items s.values.items) at c.requires.within in
    let bounds = part_bounds s.width c.args.from c.args.count (vec_len s.pairs) (vec_len s.values) c.self.invariant.rows
    (omega (arith, within)) in
    omega (arith, within, bounds.0, bounds.1)

pub copy_part-requires : goal.copy_part-requires
copy_part-requires c =
    let s = c.self.inside in
    let room : length c.args.into.now ≡ c.args.count * s.width =
    c.requires.room ∙ ap (λ (v : KeptCorners). c.args.count * v.width) (sym c.self.view_is) in
    let within : c.args.from + c.args.count ≤ length s.pairs.items =
    rw (← c.self.view_is, length-corner_recs s.width s.pairs.items s.values.items) at c.requires.within in
    let bounds = part_bounds s.width c.args.from c.args.count (vec_len s.pairs) (vec_len s.values) c.self.invariant.rows
    (omega (arith, within)) in
    omega (arith, within, room, bounds.0, bounds.1, c.deref.ensures.len)

pub returns : goal.returns
returns c =
    let s = c.self.inside in
    let room : length c.args.into.now ≡ c.args.count * s.width =
    c.requires.room ∙ ap (λ (v : KeptCorners). c.args.count * v.width) (sym c.self.view_is) in
    let within : c.args.from + c.args.count ≤ length s.pairs.items =
    rw (← c.self.view_is, length-corner_recs s.width s.pairs.items s.values.items) at c.requires.within in
    let long : length s.values.items ≡ length s.pairs.items * s.width =
    (let rows = c.self.invariant.rows in let one : vec_len s.pairs ≡ length s.pairs.items =
    omega arith in let two : vec_len s.values ≡ length s.values.items =
    omega arith in sym two ∙ rows ∙ ap (λ (n : ℕ). n * s.width) one) in
    rw (← c.self.view_is) (c.copy_part.ensures
    ∙ ap (λ (n : ℕ). take n (drop (c.args.from * s.width) c.deref.result.now)) room
    ∙ ap (λ (xs : List ℤ). take (c.args.count * s.width) (drop (c.args.from * s.width) xs)) c.deref.ensures.value
    ∙ part_rows s.width c.args.from c.args.count s.pairs.items s.values.items
    (take c.args.count (drop c.args.from (corner_recs s.width s.pairs.items s.values.items))) long within refl)

use Rattle.std.proofs.Common.{◌≡◌, ◌≤◌, ◌+◌, ◌*◌, ℕ, ℤ, List, length, map, take, drop, ap, sym, ◌∙◌, arith}
use Rattle.std.specs.Vec.{vec_len}
use Rattle.std.proofs.Math.Nat.{add-mul, mul-le-mul_right}
use Rattle.mesh_model.specs.Table.{at}
use Rattle.mesh_model.specs.Complex.{Complex, width, corners_of}
use Rattle.mesh_model.specs.declared.names.Kind.TheVariants.{Corners}
use Rattle.mesh_model.specs.declared.names.VertName.{VertName}
use Rattle.mesh_model.specs.declared.names.EdgeName.{EdgeName}
use Rattle.mesh_model.specs.declared.records.CornerRec.{CornerRec}
use Rattle.mesh_trail.specs.Kept.{KeptCorners}
use Rattle.mesh_trail.proofs.CornerRows.{length-corner_recs, corners_wide, part_same, part_pairs, part_rows, pair_in}
use Rattle.mesh_trail.proofs.corners.CornerStore.same.Goals as goal

pub overflow_mul-first : goal.overflow_mul-first
overflow_mul-first g c =
    let s = c.self.inside in
    let within : c.args.from + c.args.count ≤ length s.pairs.items =
    rw (← c.self.view_is, length-corner_recs s.width s.pairs.items s.values.items) at c.requires.within in
    let less = mul-le-mul_right {m = c.args.from} {n = vec_len s.pairs} s.width (omega arith) in
    omega (arith, c.self.invariant.rows)

pub same_numbers_at-requires-clause-within : goal.same_numbers_at-requires-clause-within
same_numbers_at-requires-clause-within g c =
    let s = c.self.inside in
    let within : c.args.from + c.args.count ≤ length s.pairs.items =
    rw (← c.self.view_is, length-corner_recs s.width s.pairs.items s.values.items) at c.requires.within in
    let parts = add-mul c.args.from c.args.count s.width in
    let most = mul-le-mul_right {m = c.args.from + c.args.count} {n = vec_len s.pairs} s.width (omega arith) in
    omega (arith, c.self.invariant.rows, c.deref-3.ensures.len)

pub returns-then-not-same_pairs_at-clause-result : goal.returns-then-not-same_pairs_at-clause-result
returns-then-not-same_pairs_at-clause-result g c =
    let s = c.self.inside in
    let ks : List CornerRec = corners_of (at (g.S.Shape.complex c.args.now.now).faces c.args.f.0) in (
      λ e. absurd (cc),
      λ is. sym c.if-not-same_pairs_at.true ∙ c.same_pairs_at.ensures.1
          (ap (λ (xs : List (VertName × EdgeName)). take c.args.count (drop c.args.from xs)) c.deref.ensures.value
          ∙ part_pairs s.width c.args.from c.args.count s.pairs.items s.values.items ks (rw (← c.self.view_is) at is)
          ∙ sym (ap (λ (xs : List (VertName × EdgeName)). take c.args.count xs) c.deref-2.ensures.value
          ∙ c.read_pairs.ensures.front)),
    )

pub returns-clause-result : goal.returns-clause-result
returns-clause-result g c =
    let s = c.self.inside in
    let complex : Complex = g.S.Shape.complex c.args.now.now in
    let ks : List CornerRec = corners_of (at complex.faces c.args.f.0) in
    let wide : s.width ≡ width complex Corners = ap (λ (v : KeptCorners). v.width) c.self.view_is ∙ c.requires.wide in
    let within : c.args.from + c.args.count ≤ length s.pairs.items =
    rw (← c.self.view_is, length-corner_recs s.width s.pairs.items s.values.items) at c.requires.within in
    let long : length s.values.items ≡ length s.pairs.items * s.width =
    (let rows = c.self.invariant.rows in let one : vec_len s.pairs ≡ length s.pairs.items =
    omega arith in let two : vec_len s.values ≡ length s.values.items =
    omega arith in sym two ∙ rows ∙ ap (λ (n : ℕ). n * s.width) one) in
    let pairs : take c.args.count (drop c.args.from s.pairs.items) ≡ map pair_in ks =
    sym (ap (λ (xs : List (VertName × EdgeName)). take c.args.count (drop c.args.from xs)) c.deref.ensures.value)
    ∙ c.same_pairs_at.ensures.0 c.if-not-same_pairs_at.false
    ∙ ap (λ (xs : List (VertName × EdgeName)). take c.args.count xs) c.deref-2.ensures.value
    ∙ c.read_pairs.ensures.front in
    rw (← c.self.view_is) (
      λ e. part_same s.width c.args.from c.args.count s.pairs.items s.values.items ks
          (rw (← wide) at (corners_wide complex c.args.f.0 c.requires.linked)) pairs
          (sym (ap (λ (xs : List ℤ). take (c.args.count * s.width) (drop (c.args.from * s.width) xs))
          c.deref-3.ensures.value) ∙ c.same_numbers_at.ensures.0 e
          ∙ ap (λ (xs : List ℤ). take (c.args.count * s.width) xs) c.deref-4.ensures.value
          ∙ c.read_rows.ensures.front),
      λ is. c.same_numbers_at.ensures.1
          (ap (λ (xs : List ℤ). take (c.args.count * s.width) (drop (c.args.from * s.width) xs)) c.deref-3.ensures.value
          ∙ part_rows s.width c.args.from c.args.count s.pairs.items s.values.items ks long within is
          ∙ sym (ap (λ (xs : List ℤ). take (c.args.count * s.width) xs) c.deref-4.ensures.value
          ∙ c.read_rows.ensures.front)),
    )

pub same_pairs_at-requires-clause-within : goal.same_pairs_at-requires-clause-within
same_pairs_at-requires-clause-within g c =
    let s = c.self.inside in
    let within : c.args.from + c.args.count ≤ length s.pairs.items =
    rw (← c.self.view_is, length-corner_recs s.width s.pairs.items s.values.items) at c.requires.within in
    let same : length c.deref.result.now ≡ length s.pairs.items = ap length c.deref.ensures.value in
    omega arith

use Rattle.std.proofs.Common.{◌≡◌, ◌≤◌, ◌+◌, ◌-◌, ◌*◌, ◌++◌, ℕ, ℤ, List, length, take, drop, ap, sym, ◌∙◌, arith}
use Rattle.std.specs.Vec.{vec_len, vec_capacity}
use Rattle.std.proofs.Math.Nat.{add-mul}
use Rattle.mesh_model.specs.declared.names.VertName.{VertName}
use Rattle.mesh_model.specs.declared.names.EdgeName.{EdgeName}
use Rattle.mesh_model.specs.declared.records.CornerRec.{CornerRec}
use Rattle.mesh_trail.specs.Kept.{KeptCorners, corner_recs}
use Rattle.mesh_trail.proofs.CornerRows.{length-corner_recs, corner_recs-append, corner_recs-part, part_bounds, part_cut, length-part}
use Rattle.mesh_trail.proofs.Rooms.{room_left}
use Rattle.mesh_trail.proofs.corners.CornerStore.append_part.Goals as goal

pub overflow_mul-first : goal.overflow_mul-first
overflow_mul-first c =
    let s = c.self.inside in
    let o = c.other.inside in
    let wide : s.width ≡ o.width = ap (λ (v : KeptCorners). v.width) c.self.view_is ∙ c.widen.ensures.width
    ∙ c.requires.wide ∙ sym (ap (λ (v : KeptCorners). v.width) c.other.view_is) in
    let within : c.args.from + c.args.count ≤ length o.pairs.items =
    rw (← c.other.view_is, length-corner_recs o.width o.pairs.items o.values.items) at c.requires.within in
    let rows : vec_len o.values ≡ vec_len o.pairs * s.width =
    c.other.invariant.rows ∙ ap (λ (n : ℕ). vec_len o.pairs * n) (sym wide) in
    let bounds = part_bounds s.width c.args.from c.args.count (vec_len o.pairs) (vec_len o.values) rows
    (omega (arith, within)) in
    omega (arith, within, bounds.0, bounds.1)

pub overflow_add-pairs : goal.overflow_add-pairs
overflow_add-pairs c =
    let o = c.other.inside in
    let within : c.args.from + c.args.count ≤ length o.pairs.items =
    rw (← c.other.view_is, length-corner_recs o.width o.pairs.items o.values.items) at c.requires.within in
    omega (arith, within)

pub offset_bounds-deref-from : goal.offset_bounds-deref-from
offset_bounds-deref-from c =
    let o = c.other.inside in
    let within : c.args.from + c.args.count ≤ length o.pairs.items =
    rw (← c.other.view_is, length-corner_recs o.width o.pairs.items o.values.items) at c.requires.within in
    omega (arith, within, c.deref.ensures.len)

pub slice_bounds-pairs-end : goal.slice_bounds-pairs-end
slice_bounds-pairs-end c =
    let o = c.other.inside in
    let within : c.args.from + c.args.count ≤ length o.pairs.items =
    rw (← c.other.view_is, length-corner_recs o.width o.pairs.items o.values.items) at c.requires.within in
    omega (arith, within, c.deref.ensures.len)

pub overflow_add-values : goal.overflow_add-values
overflow_add-values c =
    let s = c.self.inside in
    let o = c.other.inside in
    let wide : s.width ≡ o.width = ap (λ (v : KeptCorners). v.width) c.self.view_is ∙ c.widen.ensures.width
    ∙ c.requires.wide ∙ sym (ap (λ (v : KeptCorners). v.width) c.other.view_is) in
    let within : c.args.from + c.args.count ≤ length o.pairs.items =
    rw (← c.other.view_is, length-corner_recs o.width o.pairs.items o.values.items) at c.requires.within in
    let rows : vec_len o.values ≡ vec_len o.pairs * s.width =
    c.other.invariant.rows ∙ ap (λ (n : ℕ). vec_len o.pairs * n) (sym wide) in
    let bounds = part_bounds s.width c.args.from c.args.count (vec_len o.pairs) (vec_len o.values) rows
    (omega (arith, within)) in
    omega (arith, within, bounds.0, bounds.1)

pub offset_bounds-deref-first : goal.offset_bounds-deref-first
offset_bounds-deref-first c =
    let s = c.self.inside in
    let o = c.other.inside in
    let wide : s.width ≡ o.width = ap (λ (v : KeptCorners). v.width) c.self.view_is ∙ c.widen.ensures.width
    ∙ c.requires.wide ∙ sym (ap (λ (v : KeptCorners). v.width) c.other.view_is) in
    let within : c.args.from + c.args.count ≤ length o.pairs.items =
    rw (← c.other.view_is, length-corner_recs o.width o.pairs.items o.values.items) at c.requires.within in
    let rows : vec_len o.values ≡ vec_len o.pairs * s.width =
    c.other.invariant.rows ∙ ap (λ (n : ℕ). vec_len o.pairs * n) (sym wide) in
    let bounds = part_bounds s.width c.args.from c.args.count (vec_len o.pairs) (vec_len o.values) rows
    (omega (arith, within)) in
    omega (arith, within, bounds.0, bounds.1, c.deref-2.ensures.len)

pub slice_bounds-values-end : goal.slice_bounds-values-end
slice_bounds-values-end c =
    let s = c.self.inside in
    let o = c.other.inside in
    let wide : s.width ≡ o.width = ap (λ (v : KeptCorners). v.width) c.self.view_is ∙ c.widen.ensures.width
    ∙ c.requires.wide ∙ sym (ap (λ (v : KeptCorners). v.width) c.other.view_is) in
    let within : c.args.from + c.args.count ≤ length o.pairs.items =
    rw (← c.other.view_is, length-corner_recs o.width o.pairs.items o.values.items) at c.requires.within in
    let rows : vec_len o.values ≡ vec_len o.pairs * s.width =
    c.other.invariant.rows ∙ ap (λ (n : ℕ). vec_len o.pairs * n) (sym wide) in
    let bounds = part_bounds s.width c.args.from c.args.count (vec_len o.pairs) (vec_len o.values) rows
    (omega (arith, within)) in
    omega (arith, within, bounds.0, bounds.1, c.deref-2.ensures.len)

pub invariant_of-self-2 : goal.invariant_of-self-2
invariant_of-self-2 c =
    let s = c.self.inside in
    let o = c.other.inside in
    let wide : s.width ≡ o.width = ap (λ (v : KeptCorners). v.width) c.self.view_is ∙ c.widen.ensures.width
    ∙ c.requires.wide ∙ sym (ap (λ (v : KeptCorners). v.width) c.other.view_is) in
    let within : c.args.from + c.args.count ≤ length o.pairs.items =
    rw (← c.other.view_is, length-corner_recs o.width o.pairs.items o.values.items) at c.requires.within in
    let rows : vec_len o.values ≡ vec_len o.pairs * s.width =
    c.other.invariant.rows ∙ ap (λ (n : ℕ). vec_len o.pairs * n) (sym wide) in
    let bounds = part_bounds s.width c.args.from c.args.count (vec_len o.pairs) (vec_len o.values) rows
    (omega (arith, within)) in
    let from = c.args.from in
    let count = c.args.count in
    let old = c.self.invariant in
    let front = length-part from count c.deref.result.now (omega (arith, within, c.deref.ensures.len)) in
    let numbers = length-part (from * s.width) (count * s.width) c.deref-2.result.now
    (omega (arith, bounds.1, c.deref-2.ensures.len)) in
    let pairs : vec_len c.store.new.pairs ≡ vec_len s.pairs + count =
    omega (arith, front, c.in_ok-store.ensures.pairs_len) in
    let values : vec_len c.store.new.values ≡ vec_len s.values + count * s.width =
    omega (arith, numbers, c.in_ok-store.ensures.values_len) in
    let parts : (vec_len s.pairs + count) * s.width ≡ vec_len s.pairs * s.width + count * s.width =
    add-mul (vec_len s.pairs) count s.width in
    record {
      rows = rw (values, pairs) (omega (arith, old.rows, parts));
      buffer_rows = old.buffer_rows;
      pair_room = rw pairs (omega (
        arith,
        front,
        c.in_ok-store.ensures.pairs_hold,
        c.store.ensures.pair_room,
        old.pair_room,
      ));
      value_room = rw (values, c.saturating_sub-self-inside.ensures)
          (room_left (vec_len s.values) s.spare count s.width (vec_capacity s.values) (vec_capacity c.store.new.values)
          old.value_room c.store.ensures.value_room (omega (arith, numbers, c.in_ok-store.ensures.values_hold)));
      enough = omega (arith, old.enough);
    }

pub returns-clause-ok : goal.returns-clause-ok
returns-clause-ok c =
    let s = c.self.inside in
    let o = c.other.inside in
    let wide : s.width ≡ o.width = ap (λ (v : KeptCorners). v.width) c.self.view_is ∙ c.widen.ensures.width
    ∙ c.requires.wide ∙ sym (ap (λ (v : KeptCorners). v.width) c.other.view_is) in
    let within : c.args.from + c.args.count ≤ length o.pairs.items =
    rw (← c.other.view_is, length-corner_recs o.width o.pairs.items o.values.items) at c.requires.within in
    let rows : vec_len o.values ≡ vec_len o.pairs * s.width =
    c.other.invariant.rows ∙ ap (λ (n : ℕ). vec_len o.pairs * n) (sym wide) in
    let bounds = part_bounds s.width c.args.from c.args.count (vec_len o.pairs) (vec_len o.values) rows
    (omega (arith, within)) in
    let from = c.args.from in
    let count = c.args.count in
    let before : corner_recs s.width s.pairs.items s.values.items ≡ c.args.self.now.corners =
    ap (λ (v : KeptCorners). v.corners) c.self.view_is ∙ c.widen.ensures.corners in
    let there : corner_recs o.width o.pairs.items o.values.items ≡ c.args.other.now.corners =
    ap (λ (v : KeptCorners). v.corners) c.other.view_is in
    let part : List (VertName × EdgeName) = take count (drop from o.pairs.items) in
    let numbers : List ℤ = take (count * s.width) (drop (from * s.width) o.values.items) in
    let pairs : c.store.new.pairs.items ≡ s.pairs.items ++ part =
    c.in_ok-store.ensures.pairs ∙ ap (λ (xs : List (VertName × EdgeName)). s.pairs.items
    ++ take (from + count - from) (drop from xs)) c.deref.ensures.value
    ∙ ap (λ (xs : List (VertName × EdgeName)). s.pairs.items ++ xs) (part_cut from count o.pairs.items within) in
    let values : c.store.new.values.items ≡ s.values.items ++ numbers =
    c.in_ok-store.ensures.values ∙ ap (λ (xs : List ℤ). s.values.items
    ++ take (from * s.width + count * s.width - from * s.width) (drop (from * s.width) xs)) c.deref-2.ensures.value
    ∙ ap (λ (xs : List ℤ). s.values.items ++ xs) (part_cut (from * s.width) (count * s.width) o.values.items
    (omega (arith, bounds.1))) in
    let long : length s.values.items ≡ length s.pairs.items * s.width =
    (let old = c.self.invariant.rows in let one : vec_len s.pairs ≡ length s.pairs.items =
    omega arith in let two : vec_len s.values ≡ length s.values.items =
    omega arith in sym two ∙ old ∙ ap (λ (n : ℕ). n * s.width) one) in
    ap (λ (ps : List (VertName × EdgeName)). corner_recs s.width ps c.store.new.values.items) pairs
    ∙ ap (λ (vs : List ℤ). corner_recs s.width (s.pairs.items ++ part) vs) values
    ∙ corner_recs-append s.width s.pairs.items part s.values.items numbers long
    ∙ ap (λ (ks : List CornerRec). corner_recs s.width s.pairs.items s.values.items ++ ks)
    (corner_recs-part s.width from count o.pairs.items o.values.items)
    ∙ ap (λ (w : ℕ). corner_recs s.width s.pairs.items s.values.items
    ++ take count (drop from (corner_recs w o.pairs.items o.values.items))) wide
    ∙ ap (λ (ks : List CornerRec). corner_recs s.width s.pairs.items s.values.items ++ take count (drop from ks)) there
    ∙ ap (λ (first : List CornerRec). first ++ take count (drop from c.args.other.now.corners)) before

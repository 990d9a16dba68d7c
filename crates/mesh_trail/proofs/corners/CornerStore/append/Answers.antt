use Rattle.std.proofs.Common.{◌≡◌, ◌≤◌, ◌+◌, ◌*◌, ◌++◌, ℕ, ℤ, List, length, map, take, ap, sym, ◌∙◌, arith}
use Rattle.std.specs.List.{flat_map}
use Rattle.std.specs.Vec.{vec_len, vec_capacity}
use Rattle.std.proofs.Math.Nat.{add-mul, mul-le-mul_right}
use Rattle.std.proofs.lemmas.List.{length-take-le}
use Rattle.mesh_model.specs.Table.{at}
use Rattle.mesh_model.specs.Complex.{width, corners_of}
use Rattle.mesh_model.specs.declared.names.Kind.TheVariants.{Corners}
use Rattle.mesh_model.specs.declared.names.VertName.{VertName}
use Rattle.mesh_model.specs.declared.names.EdgeName.{EdgeName}
use Rattle.mesh_model.specs.declared.records.CornerRec.{CornerRec}
use Rattle.mesh_trail.specs.Kept.{KeptCorners, corner_recs}
use Rattle.mesh_trail.proofs.CornerRows.{corner_recs-append, corner_recs-of, corners_wide, pair_in, vals_in}
use Rattle.mesh_trail.proofs.Rooms.{room_left}
use Rattle.mesh_trail.proofs.corners.CornerStore.append.Goals as goal

pub invariant_of-self-2 : goal.invariant_of-self-2
invariant_of-self-2 g c =
    let s = c.self.inside in
    let count = c.corner_count-count.result in
    let old = c.self.invariant in
    let long : length c.self.inside.pair_buffer.items ≡ c.widen.new.self.longest =
    ap (λ (v : KeptCorners). v.longest) c.self.view_is in
    let holds : count ≤ c.widen.new.self.longest = c.in_ok-widen.ensures.ok in
    let parts = add-mul (vec_len s.pairs) count s.width in
    let most = mul-le-mul_right {m = count} {n = c.widen.new.self.longest} s.width holds in
    let numbers : count * s.width ≤ length s.value_buffer.items =
    (let rows = rw long at old.buffer_rows in omega arith) in
    let front = length-take-le count c.deref.result.now (omega (arith, c.deref.ensures.len, c.read_pairs.ensures.len))
    in
    let rows = length-take-le (count * s.width) c.deref-2.result.now
    (omega (arith, c.deref-2.ensures.len, c.read_rows.ensures.len)) in
    let pairs : vec_len c.store.new.pairs ≡ vec_len s.pairs + count = omega (arith, c.in_ok-store.ensures.pairs_len) in
    let values : vec_len c.store.new.values ≡ vec_len s.values + count * s.width =
    omega (arith, c.in_ok-store.ensures.values_len) in
    record {
      rows = rw (values, pairs) (omega (arith, old.rows));
      buffer_rows = rw (c.read_pairs.ensures.len, c.read_rows.ensures.len) old.buffer_rows;
      pair_room = rw pairs (omega (arith, c.in_ok-store.ensures.pairs_hold, c.store.ensures.pair_room, old.pair_room));
      value_room = rw (values, c.saturating_sub-self-inside.ensures)
          (room_left (vec_len s.values) s.spare count s.width (vec_capacity s.values) (vec_capacity c.store.new.values)
          old.value_room c.store.ensures.value_room (omega (arith, c.in_ok-store.ensures.values_hold)));
      enough = rw c.read_pairs.ensures.len (omega (arith, old.enough));
    }

pub returns-clause-ok : goal.returns-clause-ok
returns-clause-ok g c =
    let s = c.self.inside in
    let count = c.corner_count-count.result in
    let complex = g.S.Shape.complex c.args.now.now in
    let ks = corners_of (at complex.faces c.args.f.0) in
    let wide : s.width ≡ width complex Corners =
    ap (λ (v : KeptCorners). v.width) c.self.view_is ∙ c.widen.ensures.width ∙ c.requires.wide in
    let before : corner_recs s.width s.pairs.items s.values.items ≡ c.args.self.now.corners =
    ap (λ (v : KeptCorners). v.corners) c.self.view_is ∙ c.widen.ensures.corners in
    let pairs : c.store.new.pairs.items ≡ s.pairs.items ++ map pair_in ks =
    c.in_ok-store.ensures.pairs ∙ ap (λ (xs : List (VertName × EdgeName)). s.pairs.items ++ take count xs)
    c.deref.ensures.value ∙ ap (λ (xs : List (VertName × EdgeName)). s.pairs.items ++ xs) c.read_pairs.ensures.front
    in
    let values : c.store.new.values.items ≡ s.values.items ++ flat_map vals_in ks =
    c.in_ok-store.ensures.values ∙ ap (λ (xs : List ℤ). s.values.items ++ take (count * s.width) xs)
    c.deref-2.ensures.value ∙ ap (λ (xs : List ℤ). s.values.items ++ xs) c.read_rows.ensures.front in
    let long : length s.values.items ≡ length s.pairs.items * s.width =
    (let rows = c.self.invariant.rows in let one : vec_len s.pairs ≡ length s.pairs.items =
    omega arith in let two : vec_len s.values ≡ length s.values.items =
    omega arith in sym two ∙ rows ∙ ap (λ (n : ℕ). n * s.width) one) in
    ap (λ (ps : List (VertName × EdgeName)). corner_recs s.width ps c.store.new.values.items) pairs
    ∙ ap (λ (vs : List ℤ). corner_recs s.width (s.pairs.items ++ map pair_in ks) vs) values
    ∙ corner_recs-append s.width s.pairs.items (map pair_in ks) s.values.items (flat_map vals_in ks) long
    ∙ ap (λ (w : ℕ). corner_recs s.width s.pairs.items s.values.items
    ++ corner_recs w (map pair_in ks) (flat_map vals_in ks)) wide
    ∙ ap (λ (rest : List CornerRec). corner_recs s.width s.pairs.items s.values.items ++ rest)
    (corner_recs-of (width complex Corners) ks (corners_wide complex c.args.f.0 c.requires.linked))
    ∙ ap (λ (first : List CornerRec). first ++ ks) before

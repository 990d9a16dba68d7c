use Rattle.std.proofs.Common.{◌≡◌, ◌≤◌, ◌+◌, ℤ, List, length, take, arith, ap, ◌∙◌}
use Rattle.std.specs.Vec.{vec_len}
use Rattle.std.proofs.Math.Nat.{add-mul, mul-le-mul_right}
use Rattle.mesh_model.specs.declared.names.VertName.{VertName}
use Rattle.mesh_model.specs.declared.names.EdgeName.{EdgeName}
use Rattle.mesh_trail.specs.Kept.{corner_recs}
use Rattle.mesh_trail.proofs.CornerRows.{length-corner_recs, corner_recs-take}
use Rattle.mesh_trail.proofs.corners.CornerStore.cut.Goals as goal

pub overflow_mul-from : goal.overflow_mul-from
overflow_mul-from c =
    let s = c.self.inside in
    let within : c.args.from ≤ length s.pairs.items =
    rw (← c.self.view_is, length-corner_recs s.width s.pairs.items s.values.items) at c.requires.within in
    let less = mul-le-mul_right {m = c.args.from} {n = vec_len s.pairs} s.width (omega arith) in
    omega (arith, c.self.invariant.rows)

pub invariant_of-self : goal.invariant_of-self
invariant_of-self c =
    let s = c.self.inside in
    let within : c.args.from ≤ length s.pairs.items =
    rw (← c.self.view_is, length-corner_recs s.width s.pairs.items s.values.items) at c.requires.within in
    let room : c.args.room + c.args.from ≤ s.spare + length s.pairs.items =
    rw (← c.self.view_is, length-corner_recs s.width s.pairs.items s.values.items) at c.requires.room in
    let enough : c.args.room ≤ length s.pair_buffer.items = rw (← c.self.view_is) at c.requires.enough in
    let less = mul-le-mul_right {m = c.args.from} {n = vec_len s.pairs} s.width (omega arith) in
    let most = mul-le-mul_right {m = c.args.room + c.args.from} {n = s.spare + vec_len s.pairs} s.width (omega arith) in
    let few = add-mul c.args.room c.args.from s.width in
    let many = add-mul s.spare (vec_len s.pairs) s.width in
    let old = c.self.invariant in
    record {
      rows = (let short : vec_len c.truncate.new.self ≡ c.args.from =
          omega arith in rw short (omega (arith, old.rows)));
      buffer_rows = old.buffer_rows;
      pair_room = omega (arith, old.pair_room);
      value_room = omega (arith, old.value_room, old.rows);
      enough = enough;
    }

pub returns : goal.returns
returns c =
    let s = c.self.inside in
    let parts : corner_recs s.width c.truncate.new.self.items c.truncate-2.new.self.items
    ≡ take c.args.from (corner_recs s.width s.pairs.items s.values.items) =
    ap (λ (ps : List (VertName × EdgeName)). corner_recs s.width ps c.truncate-2.new.self.items)
    c.truncate.ensures.items
    ∙ ap (λ (vs : List ℤ). corner_recs s.width (take c.args.from s.pairs.items) vs) c.truncate-2.ensures.items
    ∙ corner_recs-take s.width c.args.from s.pairs.items s.values.items in
    rw (← c.self.view_is) (λ i. record {
      corners = parts i;
      width = s.width;
      room = c.args.room;
      longest = length s.pair_buffer.items;
    })

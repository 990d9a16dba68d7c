use Rattle.std.proofs.Common.{◌≡◌, ◌≤◌, ◌+◌, ◌-◌, ◌*◌, ◌++◌, rules, ℕ, ℤ, List, [], ◌∷◌, length, refl, sym, ap, ◌∙◌, arith, length-append, append-nil}
use Rattle.std.specs.List.{flat_map}
use Rattle.std.proofs.Math.Nat.{suc-mul}
use Rattle.std.proofs.lemmas.Grind.{flat_map-append}
use Rattle.std.proofs.lemmas.List.{take_all}
use Rattle.cust_data.specs.Layers.{row_of, total}
use Rattle.cust_data.proofs.Tables.{length-row_of}
use Rattle.raw_pool.specs.declared.pool.Slot.{Slot}
use Rattle.raw_pool.proofs.SlotFacts.{live_below}
use Rattle.mesh_cycles.specs.Found.{loops_in}
use Rattle.mesh_cycles.specs.Left.{loops_in_left}
use Rattle.mesh_cycles.proofs.Mapped.{next_taken, all_taken}
use Rattle.mesh_model.proofs.Reading.{take-put}
use Rattle.mesh_records.proofs.Walks.{next_live, row_fits}
use Rattle.mesh_records.proofs.readers.rows_into.Goals as goal

-- no row is no number
zero_times : (w : ℕ) → 0 * w ≡ 0
zero_times w = omega arith

pub loop-l-init : goal.loop-l-init
loop-l-init c = record {
  ready = search rules;
  seen = ap loops_in_left c.into_iter-l-iterator.ensures.into_iter_gives ∙ c.corners_of_face-l-items.ensures.items;
  count = zero_times (total c.args.st.now.values.loops.layers);
  long = refl;
  written = refl;
}

pub row-requires-clause-live : goal.row-requires-clause-live
row-requires-clause-live c =
    next_live c.args.st.now c.requires.cycles c.args.f.0 c.loop-l.yielded (loops_in_left c.loop-l.l-iterator)
    (loops_in_left c.next.new.self) c.in-Some.l c.loop-l.invariant.seen c.in-Some.ensures.steps

pub overflow_add-start : goal.overflow_add-start
overflow_add-start c =
    let wide : ℕ = total c.args.st.now.values.loops.layers in
    let fits = row_fits (loops_in c.args.st.now c.args.f.0) c.loop-l.yielded (loops_in_left c.loop-l.l-iterator)
    (loops_in_left c.next.new.self) c.in-Some.l wide c.loop-l.start (length c.loop-l.into)
    c.loop-l.invariant.seen c.in-Some.ensures.steps c.loop-l.invariant.count (c.loop-l.invariant.long ∙ c.requires.room)
    in
    let width = c.total-width.ensures in
    omega arith

pub slice_bounds-row-end : goal.slice_bounds-row-end
slice_bounds-row-end c =
    let wide : ℕ = total c.args.st.now.values.loops.layers in
    let fits = row_fits (loops_in c.args.st.now c.args.f.0) c.loop-l.yielded (loops_in_left c.loop-l.l-iterator)
    (loops_in_left c.next.new.self) c.in-Some.l wide c.loop-l.start (length c.loop-l.into)
    c.loop-l.invariant.seen c.in-Some.ensures.steps c.loop-l.invariant.count (c.loop-l.invariant.long ∙ c.requires.room)
    in
    let width = c.total-width.ensures in
    let within : c.loop-l.start + c.total-width.result ≤ length c.loop-l.into = omega arith in
    search rules

pub loop-l-preserved : goal.loop-l-preserved
loop-l-preserved c =
    let st = c.args.st.now in
    let inv = c.loop-l.invariant in
    let piece = λ (s : Slot). row_of st.values.loops s.0 in
    let more = next_taken (loops_in st c.args.f.0) c.loop-l.yielded (loops_in_left c.loop-l.l-iterator)
    (loops_in_left c.next.new.self) c.in-Some.l inv.seen c.in-Some.ensures.steps in
    let rows = c.requires.rows.loops in
    let below = live_below st.loops c.in-Some.l.0 (next_live st c.requires.cycles c.args.f.0 c.loop-l.yielded
    (loops_in_left c.loop-l.l-iterator) (loops_in_left c.next.new.self) c.in-Some.l inv.seen
    c.in-Some.ensures.steps) in
    let same : c.row.new.into ≡ piece c.in-Some.l = c.row.ensures in
    let wide : length c.row.new.into ≡ c.total-width.result =
    ap (λ (r : List ℤ). length r) same ∙ length-row_of st.values.loops c.in-Some.l.0 c.requires.table (omega arith)
    ∙ sym c.total-width.ensures in
    let row_room = row_fits (loops_in st c.args.f.0) c.loop-l.yielded (loops_in_left c.loop-l.l-iterator)
    (loops_in_left c.next.new.self) c.in-Some.l (total st.values.loops.layers) c.loop-l.start (length c.loop-l.into)
    inv.seen c.in-Some.ensures.steps inv.count (inv.long ∙ c.requires.room) in
    let width = c.total-width.ensures in
    let fits : c.loop-l.start + c.total-width.result ≤ length c.loop-l.into = omega arith in
    let gap : c.loop-l.start + c.total-width.result - c.loop-l.start ≡ c.total-width.result = omega arith in
    let count = inv.count in
    let one = suc-mul (length c.loop-l.yielded) (total st.values.loops.layers) in
    let parts = length-append c.loop-l.yielded (c.in-Some.l ∷ []) in
    record {
      ready = c.in-Some.ensures.goes.keeps;
      seen = more;
      count = ap (λ (k : ℕ). k * total st.values.loops.layers) parts ∙ omega arith;
      long = search rules;
      written = rw gap (take-put c.loop-l.start c.total-width.result c.loop-l.into c.row.new.into wide fits)
          ∙ (λ k. inv.written k ++ same k)
          ∙ sym (flat_map-append piece c.loop-l.yielded (c.in-Some.l ∷ [])
          ∙ ap (λ (r : List ℤ). flat_map piece c.loop-l.yielded ++ r) (append-nil (piece c.in-Some.l)));
    }

pub returns : goal.returns
returns c =
    let st = c.args.st.now in
    let inv = c.loop-l.invariant in
    let all = all_taken (loops_in st c.args.f.0) c.loop-l.yielded (loops_in_left c.loop-l.l-iterator) inv.seen
    c.in-None.ensures.steps.0 in
    let count = inv.count in
    let long = inv.long in
    let same = ap (λ (ls : List Slot). length ls * total st.values.loops.layers) all in
    let room = c.requires.room in
    sym (take_all c.loop-l.start c.loop-l.into (omega arith)) ∙ inv.written
    ∙ ap (flat_map (λ (s : Slot). row_of st.values.loops s.0)) all

use Rattle.std.proofs.Common.{◌≡◌, ◌+◌, rules, ℕ, List, [], ◌∷◌, refl, sym, ap, ◌∙◌, arith, length-append}
use Rattle.raw_pool.specs.declared.pool.Slot.{Slot}
use Rattle.mesh_cycles.specs.Found.{loops_in}
use Rattle.mesh_cycles.specs.Left.{loops_in_left}
use Rattle.mesh_cycles.proofs.Mapped.{next_taken}
use Rattle.mesh_records.specs.StandsFor.{place_in}
use Rattle.mesh_records.proofs.Walks.{more_follow}
use Rattle.mesh_core.proofs.Places.{place_here, place_ahead}
use Rattle.mesh_core.proofs.corners.place_in.Goals as goal

-- nothing is passed yet
from_start : (k j : ℕ) → k ≡ j → k ≡ 0 + j
from_start k j e = omega arith

pub loop-k-init : goal.loop-k-init
loop-k-init c =
    let all = ap loops_in_left c.into_iter-k-iterator.ensures.into_iter_gives
    ∙ c.corners_of_face-k-items.ensures.items in
    record {
      ready = search rules;
      seen = all;
      count = refl;
      ahead = from_start _ _ (sym (ap (λ (ls : List Slot). place_in ls c.args.l) all));
    }

pub overflow_add-i : goal.overflow_add-i
overflow_add-i c =
    let more = more_follow (loops_in c.args.st.now c.args.f.0) c.loop-k.yielded (loops_in_left c.loop-k.k-iterator)
    (loops_in_left c.next.new.self) c.in-Some.k c.loop-k.invariant.seen c.in-Some.ensures.steps in
    let few = c.corners_of_face-k-items.ensures.few in
    let count = c.loop-k.invariant.count in
    omega arith

pub loop-k-preserved : goal.loop-k-preserved
loop-k-preserved c =
    let inv = c.loop-k.invariant in
    let ahead = inv.ahead in
    let one = place_ahead (loops_in_left c.loop-k.k-iterator) (loops_in_left c.next.new.self) c.in-Some.k c.args.l
    c.in-Some.ensures.steps c.if-k-l.false in
    let count = inv.count in
    let parts = length-append c.loop-k.yielded (c.in-Some.k ∷ []) in
    record {
      ready = c.in-Some.ensures.goes.keeps;
      seen = next_taken (loops_in c.args.st.now c.args.f.0) c.loop-k.yielded (loops_in_left c.loop-k.k-iterator)
          (loops_in_left c.next.new.self) c.in-Some.k inv.seen c.in-Some.ensures.steps;
      count = omega arith;
      ahead = omega arith;
    }

pub returns-then-k-l : goal.returns-then-k-l
returns-then-k-l c =
    let ahead = c.loop-k.invariant.ahead in
    let here = place_here (loops_in_left c.loop-k.k-iterator) (loops_in_left c.next.new.self) c.in-Some.k c.args.l
    c.in-Some.ensures.steps c.if-k-l.true in
    omega arith

pub returns : goal.returns
returns c =
    let ahead = c.loop-k.invariant.ahead in
    let none = ap (λ (ls : List Slot). place_in ls c.args.l) c.in-None.ensures.steps.0 in
    omega arith

use Rattle.std.proofs.Common.{◌≡◌, ◌<◌, ◌+◌, ◌-◌, ℕ, is_some, List, Option, length, refl, sym, ap, ◌∙◌, arith}
use Rattle.std.specs.List.{slice_get}
use Rattle.std.specs.Option.{option_map}
use Rattle.raw_pool.specs.declared.pool.Slot.{Slot}
use Rattle.mesh_store.specs.Slots.{at}
use Rattle.mesh_model.specs.Complex.{corners_of}
use Rattle.mesh_model.specs.Kernel.{reversed}
use Rattle.mesh_model.specs.declared.names.EdgeName.{EdgeName}
use Rattle.mesh_model.specs.declared.names.VertName.{VertName}
use Rattle.mesh_model.specs.declared.records.CornerRec.{CornerRec}
use Rattle.mesh_records.specs.Changes.{shifted_once, backwards}
use Rattle.mesh_records.specs.ReadOff.{face_at, no_corner}
use Rattle.mesh_records.proofs.Elements.{name_live}
use Rattle.mesh_records.proofs.LoopCounts.{loops_many, len_loops, some_loops, corners_by}
use Rattle.mesh_records.proofs.ReadBack.{few_numbers, loop_there}
use Rattle.mesh_records.proofs.Reversals.{half_shifted, none_shifted, shifted_on, backwards_all, first_left}
use Rattle.mesh_records.proofs.Shifts.{corner_edge_there, corners_then, rewrites_none, last_corner_edge}
use Rattle.mesh_records.specs.Room.{none_of_all}
use Rattle.mesh_records.proofs.Places.{keeps_same, keeps_then, none_more}
use Rattle.mesh_records.proofs.corners.reverse_face.Goals as goal

pub face_len-count-requires : goal.face_len-count-requires
face_len-count-requires c = name_live c.requires.whole.records.named.faces c.args.f.0 c.slot_of_face-face.result
    c.slot_of_face-face.ensures

pub overflow_sub-count : goal.overflow_sub-count
overflow_sub-count c =
    let len = len_loops c.args.st.now c.args.next c.requires.whole c.args.f.0 c.slot_of_face-face.result
    c.slot_of_face-face.ensures c.face_len-count.result c.face_len-count.ensures.len in
    let some = some_loops c.args.st.now c.args.next c.requires.whole c.args.f.0 c.slot_of_face-face.result
    c.slot_of_face-face.ensures in
    omega arith

pub loop_at-last-requires-clause-within : goal.loop_at-last-requires-clause-within
loop_at-last-requires-clause-within c =
    let len = len_loops c.args.st.now c.args.next c.requires.whole c.args.f.0 c.slot_of_face-face.result
    c.slot_of_face-face.ensures c.face_len-count.result c.face_len-count.ensures.len in
    let some = some_loops c.args.st.now c.args.next c.requires.whole c.args.f.0 c.slot_of_face-face.result
    c.slot_of_face-face.ensures in
    omega arith

pub corner_at-requires-clause-live : goal.corner_at-requires-clause-live
corner_at-requires-clause-live c = loop_there c.args.st.now c.requires.whole.cycles.cycles c.slot_of_face-face.result.0
    (c.face_len-count.result - 1) c.loop_at-last.result c.loop_at-last.ensures

pub loop-step-init : goal.loop-step-init
loop-step-init c = record {
  rewrites = rewrites_none c.args.st.now c.args.next c.requires.whole c.args.f (half_shifted c.corner_at.result.1 0)
      (λ cs. none_shifted c.corner_at.result.1 cs);
  edge = refl;
  there = c.requires.there;
  edge_there = ap (λ (p : VertName × EdgeName). is_some (at c.args.st.now.edges.names p.1.0)) c.corner_at.ensures
      ∙ corner_edge_there c.args.st.now c.args.next c.requires.whole c.slot_of_face-face.result c.loop_at-last.result
      (c.face_len-count.result - 1) c.loop_at-last.ensures;
  places = keeps_same c.args.st.now c.args.st.now refl;
}

pub shift_corner-edge-requires-clause-whole : goal.shift_corner-edge-requires-clause-whole
shift_corner-edge-requires-clause-whole c = c.loop-step.invariant.rewrites.whole

pub shift_corner-edge-requires-clause-there : goal.shift_corner-edge-requires-clause-there
shift_corner-edge-requires-clause-there c = c.loop-step.invariant.there

pub shift_corner-edge-requires-clause-edge : goal.shift_corner-edge-requires-clause-edge
shift_corner-edge-requires-clause-edge c = c.loop-step.invariant.edge_there

pub shift_corner-edge-requires-clause-wide : goal.shift_corner-edge-requires-clause-wide
shift_corner-edge-requires-clause-wide c = few_numbers c.loop-step.st.values.loops.layers
    c.loop-step.invariant.rewrites.whole.values.loops.layers

pub loop-step-preserved : goal.loop-step-preserved
loop-step-preserved c =
    let st = c.args.st.now in
    let n = c.args.next in
    let w = c.requires.whole in
    let i = c.loop-step._step in
    let e = c.corner_at.result.1 in
    let inv = c.loop-step.invariant in
    let s = c.shift_corner-edge.ensures in
    let cs = corners_of (face_at st c.args.f.0) in
    let len = len_loops st n w c.args.f.0 c.slot_of_face-face.result c.slot_of_face-face.ensures
    c.face_len-count.result c.face_len-count.ensures.len in
    let many = loops_many st n w c.args.f.0 c.slot_of_face-face.result c.slot_of_face-face.ensures in
    let low : i < length cs = omega arith in
    let now = corners_by st c.loop-step.st n n w.records inv.rewrites.whole.records c.args.f (half_shifted e i)
    inv.rewrites.read c.requires.there in
    let own = sym (ap (λ (ks : List CornerRec). option_map (λ (k : CornerRec). k.edge) (slice_get ks 0)) now) ∙ s.own in
    let on = ap (λ (x : EdgeName). shifted_once x (half_shifted e i cs)) inv.edge ∙ shifted_on e cs i no_corner low in
    record {
      rewrites = corners_then w c.args.f (half_shifted e i) (shifted_once c.loop-step.edge) (half_shifted e (i + 1))
          inv.rewrites s.shifts on;
      edge = first_left e cs i no_corner c.shift_corner-edge.result low own;
      there = ap (λ (o : Option Slot). is_some o) (s.faces c.args.f.0) ∙ inv.there;
      edge_there = s.there;
      places = keeps_then none_of_all none_of_all none_of_all st c.loop-step.st c.shift_corner-edge.new.st
          (none_more none_of_all) inv.places s.places;
    }

pub reverse_loops-requires-clause-whole : goal.reverse_loops-requires-clause-whole
reverse_loops-requires-clause-whole c = c.loop-step.invariant.rewrites.whole

pub reverse_loops-requires-clause-there : goal.reverse_loops-requires-clause-there
reverse_loops-requires-clause-there c = c.loop-step.invariant.there

pub returns-clause-rewrites : goal.returns-clause-rewrites
returns-clause-rewrites c =
    let st = c.args.st.now in
    let n = c.args.next in
    let w = c.requires.whole in
    let i = c.loop-step._step in
    let e = c.corner_at.result.1 in
    let inv = c.loop-step.invariant in
    let cs = corners_of (face_at st c.args.f.0) in
    let len = len_loops st n w c.args.f.0 c.slot_of_face-face.result c.slot_of_face-face.ensures
    c.face_len-count.result c.face_len-count.ensures.len in
    let many = loops_many st n w c.args.f.0 c.slot_of_face-face.result c.slot_of_face-face.ensures in
    let some = some_loops st n w c.args.f.0 c.slot_of_face-face.result c.slot_of_face-face.ensures in
    let all : i ≡ length cs = omega arith in
    let last = last_corner_edge st n w c.args.f c.slot_of_face-face.result c.loop_at-last.result
    (c.face_len-count.result - 1) e c.slot_of_face-face.ensures c.loop_at-last.ensures (omega arith)
    (ap (λ (p : VertName × EdgeName). p.1) c.corner_at.ensures) in
    corners_then w c.args.f (half_shifted e i) backwards reversed inv.rewrites c.reverse_loops.ensures.rewrites
    (ap (λ (j : ℕ). backwards (half_shifted e j cs)) all ∙ backwards_all e cs last)

pub returns-clause-places : goal.returns-clause-places
returns-clause-places c = keeps_then none_of_all none_of_all none_of_all c.args.st.now c.loop-step.st
    c.reverse_loops.new.st (none_more none_of_all) c.loop-step.invariant.places c.reverse_loops.ensures.places

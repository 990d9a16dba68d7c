use Rattle.std.proofs.Common.{◌++◌, rules, List, [], ◌∷◌, length, map, refl, sym, ap, ◌∙◌, arith, length-append}
use Rattle.std.proofs.lemmas.List.{length-set, map-append, take_more_set, take_all}
use Rattle.raw_pool.specs.declared.pool.Slot.{Slot}
use Rattle.mesh_model.specs.declared.names.VertName.{VertName}
use Rattle.mesh_model.specs.declared.names.EdgeName.{EdgeName}
use Rattle.mesh_cycles.specs.Found.{loops_in}
use Rattle.mesh_cycles.specs.Left.{loops_in_left}
use Rattle.mesh_cycles.proofs.Around.{in_live}
use Rattle.mesh_cycles.proofs.Mapped.{next_member, next_taken, all_taken}
use Rattle.mesh_records.specs.ReadOff.{names_at}
use Rattle.mesh_records.proofs.Elements.{loop_is_at}
use Rattle.mesh_records.proofs.readers.corners_into.Goals as goal

pub loop-l-init : goal.loop-l-init
loop-l-init c = record {
  ready = search rules;
  seen = ap loops_in_left c.into_iter-l-iterator.ensures.into_iter_gives ∙ c.corners_of_face-l-items.ensures.items;
  count = refl;
  long = refl;
  written = refl;
}

pub corner_at-requires-clause-live : goal.corner_at-requires-clause-live
corner_at-requires-clause-live c =
    let st = c.args.st.now in
    loop_is_at st c.in-Some.l.0 (in_live st c.requires.cycles c.args.f.0 c.in-Some.l
    (next_member (loops_in st c.args.f.0) c.loop-l.yielded (loops_in_left c.loop-l.l-iterator)
    (loops_in_left c.next.new.self) c.in-Some.l c.loop-l.invariant.seen c.in-Some.ensures.steps))

pub loop-l-preserved : goal.loop-l-preserved
loop-l-preserved c =
    let st = c.args.st.now in
    let inv = c.loop-l.invariant in
    let more = next_taken (loops_in st c.args.f.0) c.loop-l.yielded (loops_in_left c.loop-l.l-iterator)
    (loops_in_left c.next.new.self) c.in-Some.l inv.seen c.in-Some.ensures.steps in
    let name : List (VertName × EdgeName) = names_at st c.in-Some.l ∷ [] in
    let count = inv.count in
    let long = inv.long in
    let all = ap (λ (ls : List Slot). length ls) more in
    let parts = length-append (c.loop-l.yielded ++ c.in-Some.l ∷ []) (loops_in_left c.next.new.self) in
    let parts' = length-append c.loop-l.yielded (c.in-Some.l ∷ []) in
    let room = c.requires.room in
    record {
      ready = c.in-Some.ensures.goes.keeps;
      seen = more;
      count = omega arith;
      long = length-set c.loop-l.into c.loop-l.i c.corner_at.result ∙ long;
      written = take_more_set c.loop-l.into c.loop-l.i c.corner_at.result (omega arith)
          ∙ (λ k. inv.written k ++ c.corner_at.ensures k ∷ [])
          ∙ sym (map-append (names_at st) c.loop-l.yielded (c.in-Some.l ∷ []));
    }

pub returns : goal.returns
returns c =
    let st = c.args.st.now in
    let inv = c.loop-l.invariant in
    let all = all_taken (loops_in st c.args.f.0) c.loop-l.yielded (loops_in_left c.loop-l.l-iterator) inv.seen
    c.in-None.ensures.steps.0 in
    let count = inv.count in
    let long = inv.long in
    let same = ap (λ (ls : List Slot). length ls) all in
    let room = c.requires.room in
    sym (take_all c.loop-l.i c.loop-l.into (omega arith)) ∙ inv.written ∙ ap (map (names_at st)) all

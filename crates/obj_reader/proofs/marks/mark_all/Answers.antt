use Rattle.std.proofs.Common.{◌<◌, ◌≤◌, ◌∙◌, sym, arith, length, map, get_or, refl, None}
use Rattle.std.proofs.lemmas.List.{length-set, length-map, get_or-map}
use Rattle.std.proofs.lemmas.List.Elements.{All-set}
use Rattle.obj_reader.specs.Values.{vert_of}
use Rattle.obj_reader.proofs.MarkLemmas.{marked_twice, marked_once, marked_next, none_marked}
use Rattle.obj_reader.proofs.marks.mark_all.Goals as goal

pub loop-corner-init : goal.loop-corner-init
loop-corner-init c = record {
  long = refl;
  marked = none_marked c.args.mark c.args.seen.now c.requires.fresh;
  distinct = refl;
  most = λ k d here. omega (arith, c.requires.fresh k d here);
}

pub returns-then-seen-place-clause-same : goal.returns-then-seen-place-clause-same
returns-then-seen-place-clause-same c =
    let i = c.loop-corner.corner-index in
    let vs = map vert_of c.args.corners.now in
    let k = get_or c.args.corners.now i (record { vert = 0; texture = None }) in
    let here : i < length vs = rw length-map c.loop-corner-test.true in
    let long = c.loop-corner.invariant.long in
    sym (marked_twice c.args.mark vs i (vert_of k) c.loop-corner.seen here
    (get_or-map vert_of c.args.corners.now i (record { vert = 0; texture = None }) (vert_of k) c.loop-corner-test.true)
    c.loop-corner.invariant.marked (omega (
      arith,
      long,
      c.requires.within i (record { vert = 0; texture = None }) c.loop-corner-test.true,
    )) c.if-seen-place.true)

pub loop-corner-preserved : goal.loop-corner-preserved
loop-corner-preserved c =
    let i = c.loop-corner.corner-index in
    let vs = map vert_of c.args.corners.now in
    let k = get_or c.args.corners.now i (record { vert = 0; texture = None }) in
    let here : i < length vs = rw length-map c.loop-corner-test.true in
    let long = c.loop-corner.invariant.long in
    let at = get_or-map vert_of c.args.corners.now i (record { vert = 0; texture = None }) (vert_of k)
    c.loop-corner-test.true in
    let within : k.vert < length c.loop-corner.seen =
    omega (arith, long, c.requires.within i (record { vert = 0; texture = None }) c.loop-corner-test.true) in
    record {
      long = length-set c.loop-corner.seen k.vert c.args.mark ∙ long;
      marked = marked_next c.args.mark vs i (vert_of k) c.loop-corner.seen here at c.loop-corner.invariant.marked
          within;
      distinct = marked_once c.args.mark vs i (vert_of k) c.loop-corner.seen here at c.loop-corner.invariant.marked
          c.loop-corner.invariant.distinct within c.if-seen-place.false;
      most = All-set (λ m. m ≤ c.args.mark) c.loop-corner.seen k.vert c.args.mark (omega arith)
          c.loop-corner.invariant.most;
    }

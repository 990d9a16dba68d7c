use Rattle.std.proofs.Common.{◌≡◌, ◌∙◌, length, ap, arith}
use Rattle.obj_writer.proofs.PlaceLemmas.{places_next, places_all}
use Rattle.obj_writer.proofs.places.found_places.Goals as goal

pub loop-n-preserved : goal.loop-n-preserved
loop-n-preserved g c =
    let whole = g.S.Shape.complex c.args.shape.now in
    let faces : c.counters-n-end.result.faces ≡ length whole.faces =
    ap (λ k. k.faces) c.counters-n-end.ensures.counters in
    places_next whole c.loop-n.n c.loop-n.found.keys _ (omega (arith, c.loop-n-test.true)) c.loop-n.invariant
    c.in_ok-add_entry.ensures

pub returns : goal.returns
returns g c =
    let whole = g.S.Shape.complex c.args.shape.now in
    let faces : c.counters-n-end.result.faces ≡ length whole.faces =
    ap (λ k. k.faces) c.counters-n-end.ensures.counters in
    c.loop-n.invariant ∙ places_all whole c.loop-n.n (omega (arith, c.loop-n-test.false))

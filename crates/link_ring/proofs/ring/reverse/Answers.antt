use Rattle.std.proofs.Common.{◌∷◌, sym, ◌∙◌}
use Rattle.link_ring.proofs.Segments.{is_key_along}
use Rattle.link_ring.proofs.Paths.{test_differs}
use Rattle.link_ring.proofs.Reversal.{exchanged_ring, exchanged_others}
use Rattle.link_ring.proofs.Turning.{advanced, finished, path_shorter, at_key}
use Rattle.link_ring.proofs.ring.reverse.Goals as goal

pub next-after-requires : goal.next-after-requires
next-after-requires g c = at_key c.loop-first.invariant.turning

pub prev-before-requires : goal.prev-before-requires
prev-before-requires g c = at_key c.loop-first.invariant.turning

pub set_next-requires : goal.set_next-requires
set_next-requires g c = at_key c.loop-first.invariant.turning

pub set_prev-requires : goal.set_prev-requires
set_prev-requires g c = is_key_along (c.set_next.ensures.sets.has c.loop-first.at)
    (at_key c.loop-first.invariant.turning)

pub returns-then-eq-clause-ring : goal.returns-then-eq-clause-ring
returns-then-eq-clause-ring g c = λ xs r.
    let end = g.met.L.Links.one_key c.next-after.result c.args.first (sym c.eq.ensures ∙ c.if-eq.true) in
    exchanged_ring xs (finished c.loop-first.invariant.turning c.set_next.ensures.sets c.set_prev.ensures.sets
    c.next-after.ensures c.prev-before.ensures end xs r) r

pub returns-then-eq-clause-others : goal.returns-then-eq-clause-others
returns-then-eq-clause-others g c = λ xs r.
    let end = g.met.L.Links.one_key c.next-after.result c.args.first (sym c.eq.ensures ∙ c.if-eq.true) in
    exchanged_others (c.args.first ∷ xs) (finished c.loop-first.invariant.turning c.set_next.ensures.sets
    c.set_prev.ensures.sets c.next-after.ensures c.prev-before.ensures end xs r)

pub loop-first-smaller : goal.loop-first-smaller
loop-first-smaller g c =
    path_shorter g.K.PartialEq.eq (record { one = g.met.L.Links.one_key; same = g.met.K.Eq.laws.refl })
    (g.L.Links.key_limit c.args.links.now) (g.met.L.Links.limited c.args.links.now)
    c.loop-first.invariant.turning c.next-after.ensures
    (test_differs g.K.PartialEq.eq c.next-after.result c.args.first
    (record { one = g.met.L.Links.one_key; same = g.met.K.Eq.laws.refl }) (sym c.eq.ensures ∙ c.if-eq.false))

pub loop-first-preserved : goal.loop-first-preserved
loop-first-preserved g c = record {
  turning = advanced c.loop-first.invariant.turning c.set_next.ensures.sets c.set_prev.ensures.sets c.next-after.ensures
      c.prev-before.ensures
      (test_differs g.K.PartialEq.eq c.next-after.result c.args.first
      (record { one = g.met.L.Links.one_key; same = g.met.K.Eq.laws.refl }) (sym c.eq.ensures ∙ c.if-eq.false));
  rest = c.set_prev.ensures.rest ∙ c.set_next.ensures.rest ∙ c.loop-first.invariant.rest;
  keys = λ j. c.set_prev.ensures.sets.has j ∙ c.set_next.ensures.sets.has j ∙ c.loop-first.invariant.keys j;
}

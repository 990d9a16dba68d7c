use Rattle.std.proofs.Common.{ap, ◌∙◌}
use Rattle.link_ring.proofs.Segments.{is_key_along}
use Rattle.link_ring.proofs.Rings.{next_key}
use Rattle.link_ring.proofs.Insertion.{inserted, inserted_ring, inserted_others, is_outside}
use Rattle.link_ring.proofs.ring.insert_after.Goals as goal

pub set_prev-requires-2 : goal.set_prev-requires-2
set_prev-requires-2 g c =
    let after = c.next-after.result in
    is_key_along
    (c.set_next-2.ensures.sets.has after ∙ c.set_prev.ensures.sets.has after ∙ c.set_next.ensures.sets.has after
    ∙ ap (g.L.Links.links c.args.links.now).has c.next-after.ensures)
    (next_key c.requires.apart.0 c.requires.apart.1)

pub returns-clause-ring : goal.returns-clause-ring
returns-clause-ring g c = λ xs r.
    let i = inserted c.requires.apart c.set_next.ensures.sets c.set_prev.ensures.sets c.set_next-2.ensures.sets
    c.set_prev-2.ensures.sets c.next-after.ensures in
    inserted_ring xs i r c.requires.key (is_outside {m = g.L.Links.links c.args.links.now} xs c.requires.apart r)

pub returns-clause-others : goal.returns-clause-others
returns-clause-others g c = λ xs r.
    let i = inserted c.requires.apart c.set_next.ensures.sets c.set_prev.ensures.sets c.set_next-2.ensures.sets
    c.set_prev-2.ensures.sets c.next-after.ensures in
    inserted_others xs i r

use Rattle.std.proofs.Common.{ap, ◌∙◌}
use Rattle.link_ring.proofs.Segments.{is_key_along}
use Rattle.link_ring.proofs.Rings.{next_key, prev_key}
use Rattle.link_ring.proofs.Removal.{removed, removed_ring, removed_others}
use Rattle.link_ring.proofs.ring.take_out.Goals as goal

pub set_next-requires : goal.set_next-requires
set_next-requires g c =
    is_key_along (ap (g.L.Links.links c.args.links.now).has c.prev-before.ensures) (prev_key c.requires.0 c.requires.1)

pub set_prev-requires : goal.set_prev-requires
set_prev-requires g c =
    is_key_along (c.set_next.ensures.sets.has c.next-after.result
    ∙ ap (g.L.Links.links c.args.links.now).has c.next-after.ensures) (next_key c.requires.0 c.requires.1)

pub returns-then-eq-clause-others : goal.returns-then-eq-clause-others
returns-then-eq-clause-others g c = λ xs r.
    removed_others xs (removed c.set_next.ensures.sets c.set_prev.ensures.sets c.prev-before.ensures
    c.next-after.ensures) r

pub returns-else-eq-clause-ring : goal.returns-else-eq-clause-ring
returns-else-eq-clause-ring g c = λ xs r.
    removed_ring xs (removed c.set_next.ensures.sets c.set_prev.ensures.sets c.prev-before.ensures c.next-after.ensures)
    r

pub returns-else-eq-clause-others : goal.returns-else-eq-clause-others
returns-else-eq-clause-others g c = λ xs r.
    removed_others xs (removed c.set_next.ensures.sets c.set_prev.ensures.sets c.prev-before.ensures
    c.next-after.ensures) r

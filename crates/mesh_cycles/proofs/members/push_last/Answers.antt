use Rattle.link_ring.proofs.Reading.{reads_at, last_without, pushed_last, pushed_others}
use Rattle.mesh_cycles.proofs.members.push_last.Goals as goal

pub insert_after-requires-clause-apart : goal.insert_after-requires-clause-apart
insert_after-requires-clause-apart g c =
    last_without c.args.k (reads_at c.requires.apart.1 c.in-Some.is) c.prev-last.ensures c.requires.apart.2

pub returns-clause-reads : goal.returns-clause-reads
returns-clause-reads g c = λ xs r.
    pushed_last (g.L.Links.links c.insert_after.new.links) c.args.k (reads_at r c.in-Some.is) c.prev-last.ensures
    c.insert_after.ensures.ring

pub returns-clause-others : goal.returns-clause-others
returns-clause-others g c = λ xs r. pushed_others c.args.k (reads_at r c.in-Some.is) c.prev-last.ensures
    c.insert_after.ensures.others

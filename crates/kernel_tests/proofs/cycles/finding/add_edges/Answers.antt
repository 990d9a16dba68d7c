use Rattle.kernel_tests.proofs.cycles.finding.add_edges.Goals as goal

pub returns-clause-whole : goal.returns-clause-whole
returns-clause-whole g c = c.join-other.ensures.whole (c.join-early.ensures.whole
    (c.join-late.ensures.whole c.requires.whole))

use Rattle.kernel_tests.proofs.cycles.finding.add_ends.Goals as goal

pub returns-clause-whole : goal.returns-clause-whole
returns-clause-whole g c = c.add_vert-x.ensures.whole (c.add_vert-w.ensures.whole
    (c.add_vert-v.ensures.whole c.requires.whole))

use Rattle.kernel_tests.proofs.cycles.finding.between.Goals as goal

pub edge_between-requires-clause-whole_a : goal.edge_between-requires-clause-whole_a
edge_between-requires-clause-whole_a g c = c.requires.whole _

pub edge_between-requires-clause-whole_b : goal.edge_between-requires-clause-whole_b
edge_between-requires-clause-whole_b g c = c.requires.whole _

use Rattle.kernel_tests.proofs.cycles.finding.around.Goals as goal

pub find_edge-requires-clause-whole : goal.find_edge-requires-clause-whole
find_edge-requires-clause-whole g c = c.requires.whole _

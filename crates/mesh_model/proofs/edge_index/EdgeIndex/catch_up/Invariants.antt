use Rattle.std.proofs.Common.{◌+◌, ◌-◌, ◌≤◌, length}
use Rattle.std.specs.HashMap.{spare}
use Rattle.mesh_model.specs.EdgeIndexes.{Knows}
use Rattle.mesh_model.proofs.edge_index.EdgeIndex.catch_up.Given as goal

abbrev pub invariant-loop-self : goal.invariant-loop-self
invariant-loop-self l = record {
  knows : Knows l.self l.edges.table;
  room : length l.edges.table - l.self.known + l.more ≤ spare l.self.least;
}

abbrev pub decreases-loop-self : goal.decreases-loop-self
decreases-loop-self l = length l.edges.table - l.self.known

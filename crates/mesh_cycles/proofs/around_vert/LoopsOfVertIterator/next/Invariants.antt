use Rattle.std.proofs.Common.{◌≡◌, length}
use Rattle.mesh_cycles.specs.Left.{edges_around_left}
use Rattle.mesh_cycles.specs.Around.{loops_around_left, CanGiveLoopsAround}
use Rattle.mesh_cycles.proofs.around_vert.LoopsOfVertIterator.next.Given as goal

-- no loop that stands at the vertex is passed over
abbrev pub invariant-edges : goal.invariant-edges
invariant-edges l = record {
  ready : CanGiveLoopsAround l.self;
  same : loops_around_left l.self ≡ loops_around_left l.initial.self;
}

abbrev pub decreases-edges : goal.decreases-edges
decreases-edges l = length (edges_around_left l.self.edges)

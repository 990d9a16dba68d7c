use Rattle.std.proofs.Common.{◌≡◌, ◌++◌}
use Rattle.mesh_cycles.specs.Found.{edges_around}
use Rattle.mesh_cycles.specs.Left.{edges_around_left}
use Rattle.mesh_cycles.proofs.Joining.{IsLeast}
use Rattle.mesh_cycles.proofs.find.find_edge.Given as goal

-- the edges seen and then those left are those around a, and of those seen the least is known
abbrev pub invariant-loop-e : goal.invariant-loop-e
invariant-loop-e l = record {
  ready : goal.iterator-loop-e.can_next l.e-iterator;
  seen : l.yielded ++ edges_around_left l.e-iterator ≡ edges_around l.st l.a.0;
  least : IsLeast l.st l.a.0 l.b.0 l.yielded l.least;
}

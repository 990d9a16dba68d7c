use Rattle.std.proofs.Common.{◌≡◌}
use Rattle.std.specs.List.{find}
use Rattle.mesh_cycles.specs.Found.{AllLive, loops_in, goes_along}
use Rattle.mesh_cycles.specs.Left.{loops_in_left}
use Rattle.mesh_cycles.proofs.along_edge.first_along.Given as goal

-- what is searched for is not among the loops passed
abbrev pub invariant-loop-l : goal.invariant-loop-l
invariant-loop-l l = record {
  ready : goal.iterator-loop-l.can_next l.l-iterator;
  live : AllLive l.st.loops (loops_in_left l.l-iterator);
  same : find (goes_along l.st l.e.0) (loops_in_left l.l-iterator)
      ≡ find (goes_along l.st l.e.0) (loops_in l.st l.fn.f.0);
}

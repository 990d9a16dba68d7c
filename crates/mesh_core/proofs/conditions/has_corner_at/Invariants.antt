use Rattle.std.proofs.Common.{◌≡◌, ◌++◌}
use Rattle.std.specs.List.{list_any}
use Rattle.mesh_cycles.specs.Found.{loops_in}
use Rattle.mesh_cycles.specs.Left.{loops_in_left}
use Rattle.mesh_core.proofs.Losing.{at_vert}
use Rattle.mesh_core.proofs.conditions.has_corner_at.Given as goal

-- none of the loops passed is such a corner
abbrev pub invariant-loop-l : goal.invariant-loop-l
invariant-loop-l s = record {
  ready : goal.iterator-loop-l.can_next s.l-iterator;
  seen : s.yielded ++ loops_in_left s.l-iterator ≡ loops_in s.fn.st s.fn.f.0;
  ahead : list_any (at_vert s.fn.st s.fn.v) (loops_in s.fn.st s.fn.f.0)
      ≡ list_any (at_vert s.fn.st s.fn.v) (loops_in_left s.l-iterator);
}

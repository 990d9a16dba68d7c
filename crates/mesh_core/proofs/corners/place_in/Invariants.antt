use Rattle.std.proofs.Common.{◌≡◌, ◌+◌, ◌++◌, length}
use Rattle.mesh_cycles.specs.Found.{loops_in}
use Rattle.mesh_cycles.specs.Left.{loops_in_left}
use Rattle.mesh_records.specs.StandsFor.{place_in}
use Rattle.mesh_core.proofs.corners.place_in.Given as goal

-- the loop isn't among those passed
abbrev pub invariant-loop-k : goal.invariant-loop-k
invariant-loop-k s = record {
  ready : goal.iterator-loop-k.can_next s.k-iterator;
  seen : s.yielded ++ loops_in_left s.k-iterator ≡ loops_in s.fn.st s.fn.f.0;
  count : length s.yielded ≡ s.i;
  ahead : place_in (loops_in s.fn.st s.fn.f.0) s.fn.l ≡ s.i + place_in (loops_in_left s.k-iterator) s.fn.l;
}

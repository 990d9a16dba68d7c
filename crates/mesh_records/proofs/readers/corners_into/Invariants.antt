use Rattle.std.proofs.Common.{◌≡◌, ◌++◌, length, map, take}
use Rattle.mesh_cycles.specs.Found.{loops_in}
use Rattle.mesh_cycles.specs.Left.{loops_in_left}
use Rattle.mesh_records.specs.ReadOff.{names_at}
use Rattle.mesh_records.proofs.readers.corners_into.Given as goal

-- what is written so far is of the loops passed
abbrev pub invariant-loop-l : goal.invariant-loop-l
invariant-loop-l l = record {
  ready : goal.iterator-loop-l.can_next l.l-iterator;
  seen : l.yielded ++ loops_in_left l.l-iterator ≡ loops_in l.st l.fn.f.0;
  count : length l.yielded ≡ l.i;
  long : length l.into ≡ length l.fn.into;
  written : take l.i l.into ≡ map (names_at l.st) l.yielded;
}

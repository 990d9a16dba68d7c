use Rattle.std.proofs.Common.{take}
use Rattle.mesh_trail.specs.Tree.{names_of, IsLeast}
use Rattle.mesh_trail.proofs.note_map.least_name.Given as goal

abbrev pub invariant-loop-k : goal.invariant-loop-k
invariant-loop-k g l = IsLeast (names_of (take l.k l.entries)) l.least l.best

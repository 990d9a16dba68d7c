use Rattle.std.proofs.Common.{◌≡◌, take}
use Rattle.mesh_trail.specs.Noted.{map_notes}
use Rattle.mesh_trail.specs.Kept.{kept_row}
use Rattle.mesh_trail.specs.Tree.{names_of}
use Rattle.mesh_trail.proofs.table.copy_entries.Given as goal

abbrev pub invariant-loop-k : goal.invariant-loop-k
invariant-loop-k g l = record {
  names : l.table.names ≡ map_notes (kept_row l.initial.table.width l.values) (names_of (take l.k l.entries));
  width : l.table.width ≡ l.initial.table.width;
}

use Rattle.std.proofs.Common.{◌≡◌, take}
use Rattle.mesh_trail.specs.Noted.{map_notes}
use Rattle.mesh_trail.specs.Kept.{face_in}
use Rattle.mesh_trail.specs.Tree.{names_of}
use Rattle.mesh_trail.proofs.faces.copy_entries.Given as goal

abbrev pub invariant-loop-k : goal.invariant-loop-k
invariant-loop-k l = record {
  names : l.faces.names ≡ map_notes (face_in l.corners.corners l.initial.faces.width l.values)
      (names_of (take l.k l.entries));
  width : l.faces.width ≡ l.initial.faces.width;
  corner_width : l.faces.corner_width ≡ l.initial.faces.corner_width;
}

use Rattle.std.proofs.Common.{map, take}
use Rattle.mesh_records.specs.Puts.{row_like}
use Rattle.mesh_records.specs.Faces.{corner_put, PutsCorners}
use Rattle.mesh_records.specs.Places.{KeepsPlaces}
use Rattle.mesh_records.specs.Room.{of_face}
use Rattle.mesh_records.proofs.putting.put_face.Given as goal

abbrev pub invariant-loop-corner : goal.invariant-loop-corner
invariant-loop-corner l = record {
  puts : PutsCorners l.fn.st l.st l.fn.next l.face
      (map (corner_put l.fn.st) (take l.corner-index l.corners)) (row_like l.fn.st.values.faces l.fn.like);
  places : KeepsPlaces (of_face l.corner-index) l.fn.st l.st;
}

use Rattle.std.proofs.Common.{take}
use Rattle.mesh_records.specs.Corners.{AppendsCorners, of_corners}
use Rattle.mesh_records.specs.Places.{KeepsPlaces}
use Rattle.mesh_records.proofs.putting.put_corners.Given as goal

abbrev pub invariant-loop-corner : goal.invariant-loop-corner
invariant-loop-corner l = record {
  appends : AppendsCorners l.fn.st l.st l.fn.next l.fn.f (take l.corner-index l.corners) l.corner-index;
  places : KeepsPlaces (of_corners l.corner-index) l.fn.st l.st;
}

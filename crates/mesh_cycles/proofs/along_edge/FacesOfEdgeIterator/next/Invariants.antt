use Rattle.std.proofs.Common.{◌≡◌, length}
use Rattle.mesh_cycles.specs.Left.{loops_along_left}
use Rattle.mesh_cycles.specs.Faces.{faces_along_left, CanGiveFacesAlong}
use Rattle.mesh_cycles.proofs.along_edge.FacesOfEdgeIterator.next.Given as goal

-- no face is passed over
abbrev pub invariant-loop-l : goal.invariant-loop-l
invariant-loop-l l = record {
  ready : CanGiveFacesAlong l.self;
  same : faces_along_left l.self ≡ faces_along_left l.initial.self;
}

abbrev pub decreases-loop-l : goal.decreases-loop-l
decreases-loop-l l = length (loops_along_left l.self.loops)

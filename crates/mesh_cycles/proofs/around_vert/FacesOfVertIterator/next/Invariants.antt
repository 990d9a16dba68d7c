use Rattle.std.proofs.Common.{◌≡◌, length}
use Rattle.mesh_cycles.specs.Around.{loops_around_left}
use Rattle.mesh_cycles.specs.Faces.{faces_around_left, CanGiveFacesAround}
use Rattle.mesh_cycles.proofs.around_vert.FacesOfVertIterator.next.Given as goal

-- no face is passed over
abbrev pub invariant-loop-l : goal.invariant-loop-l
invariant-loop-l l = record {
  ready : CanGiveFacesAround l.self;
  same : faces_around_left l.self ≡ faces_around_left l.initial.self;
}

abbrev pub decreases-loop-l : goal.decreases-loop-l
decreases-loop-l l = length (loops_around_left l.self.loops)

use Rattle.std.proofs.Common.{◌≡◌, length}
use Rattle.mesh_cycles.specs.Left.{loops_along_left, CanGiveLoopsAlong}
use Rattle.mesh_cycles.specs.Found.{AllLive}
use Rattle.mesh_cycles.specs.Around.{standing_left}
use Rattle.mesh_cycles.proofs.around_vert.next_standing.Given as goal

-- no loop that stands at the vertex is passed over
abbrev pub invariant-loop-l : goal.invariant-loop-l
invariant-loop-l l = record {
  ready : CanGiveLoopsAlong l.loops;
  live : AllLive l.st.loops (loops_along_left l.loops);
  same : standing_left l.st l.v.0 l.loops ≡ standing_left l.st l.v.0 l.initial.loops;
}

abbrev pub decreases-loop-l : goal.decreases-loop-l
decreases-loop-l l = length (loops_along_left l.loops)

use Rattle.std.proofs.Common.{length}
use Rattle.raw_pool.specs.Slots.{IsLive}
use Rattle.mesh_cycles.specs.Cycles.{HaveCycles, round_of}
use Rattle.mesh_model.specs.declared.records.Counters.{Counters}
use Rattle.mesh_records.specs.Takes.{LosesLoops}
use Rattle.mesh_records.specs.Whole.{AreLinked, IsNearlyWhole}
use Rattle.mesh_records.proofs.taking.take_loops.Given as goal

abbrev pub invariant-loop-l : goal.invariant-loop-l
invariant-loop-l l = record {
  nearly : (n : Counters) → IsNearlyWhole l.initial.st n → IsNearlyWhole l.st n;
  loses : LosesLoops l.initial.st l.st l.f.0;
  cycles : HaveCycles l.st;
  linked : AreLinked l.st;
  face : IsLive l.st.faces.cells l.f.0;
}

abbrev pub decreases-loop-l : goal.decreases-loop-l
decreases-loop-l l = length (round_of l.st l.f.0)

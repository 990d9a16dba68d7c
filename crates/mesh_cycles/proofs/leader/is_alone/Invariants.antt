use Rattle.mesh_cycles.specs.Found.{IsAlone}
use Rattle.mesh_cycles.proofs.leader.is_alone.Given as goal

-- none of the loops passed is another one of the face
abbrev pub invariant-loop-k : goal.invariant-loop-k
invariant-loop-k g l = record {
  ready : (goal.iterator-loop-k g).can_next l.k-iterator;
  ends : (goal.iterator-loop-k g).is_finite l.k-iterator;
  alone : IsAlone l.st l.yielded l.f l.l;
}

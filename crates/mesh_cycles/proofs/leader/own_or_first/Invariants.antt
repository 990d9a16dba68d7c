use Rattle.mesh_cycles.proofs.Leaders.{ArePassed}
use Rattle.mesh_cycles.proofs.leader.own_or_first.Given as goal

-- the loops passed do not decide
abbrev pub invariant-loop-l : goal.invariant-loop-l
invariant-loop-l g l = record {
  ready : (goal.iterator-loop-l g).can_next l.l-iterator;
  ends : (goal.iterator-loop-l g).is_finite l.l-iterator;
  passed : ArePassed l.st l.own l.yielded l.f l.first;
}

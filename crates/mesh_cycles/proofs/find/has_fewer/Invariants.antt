use Rattle.mesh_cycles.specs.Left.{CanGiveEdgesAround}
use Rattle.mesh_cycles.proofs.find.has_fewer.Given as goal

-- both walks may go on
abbrev pub invariant-loop : goal.invariant-loop
invariant-loop l = record { edges : CanGiveEdgesAround l.iterator'; others : CanGiveEdgesAround l.others }

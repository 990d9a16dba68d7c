use Rattle.op_slots.proofs.Pairing.{AreTaken}
use Rattle.op_slots.proofs.mapping.Mapping.from_pairs.Given as goal

-- the pairs so far are taken, with distinct sources
abbrev pub invariant-loop-pair : goal.invariant-loop-pair
invariant-loop-pair l = AreTaken l.pairs l.pair-index l.targets.entries

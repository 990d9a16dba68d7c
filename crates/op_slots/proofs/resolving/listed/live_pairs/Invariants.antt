use Rattle.std.proofs.Common.{◌≡◌, take}
use Rattle.op_slots.specs.Values.{live_pairs}
use Rattle.op_slots.proofs.resolving.listed.live_pairs.Given as goal

-- the pairs so far that are there
abbrev pub invariant-loop-k : goal.invariant-loop-k
invariant-loop-k g l = l.live ≡ live_pairs (g.S.Shape.complex l.shape) (take l.k l.pairs)

use Rattle.std.proofs.Common.{get_or}
use Rattle.raw_pool.specs.Place.{Empty}
use Rattle.raw_pool.proofs.Sweeps.{Sweep}
use Rattle.raw_pool.proofs.chunk.Chunk.free.Given as goal

abbrev pub invariant-loop-at : goal.invariant-loop-at
invariant-loop-at g l = Sweep (λ k. Empty) (λ k. get_or l.initial.chunk.places k Empty) l.chunk.places l.at l.len

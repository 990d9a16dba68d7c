use Rattle.std.proofs.Common.{get_or}
use Rattle.raw_pool.specs.Place.{Empty}
use Rattle.raw_pool.proofs.Sweeps.{Sweep}
use Rattle.raw_pool.proofs.chunk.Chunk.copy.Given as goal

abbrev pub invariant-loop-at : goal.invariant-loop-at
invariant-loop-at g l = Sweep (λ k. get_or l.self.places k Empty) (λ k. Empty) l.twin.places l.at l.len

use Rattle.raw_pool.specs.Place.{Empty, Link}
use Rattle.raw_pool.specs.FreeList.{fresh_link}
use Rattle.raw_pool.proofs.Sweeps.{Sweep}
use Rattle.raw_pool.proofs.chunk.Chunk.vacant.Given as goal

abbrev pub invariant-loop-at : goal.invariant-loop-at
invariant-loop-at g l = Sweep (λ k. Link (fresh_link l.start l.len l.after k)) (λ k. Empty) l.chunk.places l.at l.len

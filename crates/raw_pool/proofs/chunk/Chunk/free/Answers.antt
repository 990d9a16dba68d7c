use Rattle.raw_pool.proofs.Sweeps.{swept_empty}
use Rattle.raw_pool.proofs.chunk.Chunk.free.Goals as goal

pub deallocate-requires : goal.deallocate-requires
deallocate-requires g c = swept_empty c.loop-at.invariant c.loop-at-test.false

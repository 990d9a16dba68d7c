use Rattle.raw_pool.proofs.Sweeps.{swept_copy}
use Rattle.raw_pool.proofs.chunk.Chunk.copy.Goals as goal

pub returns : goal.returns
returns g c = swept_copy c.args.self.now.places c.loop-at.invariant c.loop-at-test.false c.requires.len

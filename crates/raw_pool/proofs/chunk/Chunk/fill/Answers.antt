use Rattle.std.proofs.lemmas.List.{set-set}
use Rattle.raw_pool.proofs.chunk.Chunk.fill.Goals as goal

pub returns-clause-places : goal.returns-clause-places
returns-clause-places g c = rw (c.write.ensures, c.read_link-link.ensures.places)
    (set-set c.args.self.now.places c.args.at _ _)

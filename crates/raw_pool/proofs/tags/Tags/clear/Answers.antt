use Rattle.raw_pool.proofs.Bits.{tag_cleared}
use Rattle.raw_pool.proofs.tags.Tags.clear.Goals as goal

pub returns-clause-tags : goal.returns-clause-tags
returns-clause-tags c = tag_cleared c.args.self.now.words.items c.args.at c.index_mut-word.result.now c.requires
    c.index_mut-word.ensures.value

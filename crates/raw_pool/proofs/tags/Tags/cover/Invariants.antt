use Rattle.std.proofs.Common.{◌-◌, ◌≤◌, length, vec_len}
use Rattle.raw_pool.specs.Tags.{SameTags}
use Rattle.raw_pool.proofs.tags.Tags.cover.Given as goal

abbrev pub invariant-loop-self : goal.invariant-loop-self
invariant-loop-self l = record {
  same : SameTags l.initial.self.words.items l.self.words.items;
  grows : length l.initial.self.words.items ≤ length l.self.words.items;
}

abbrev pub decreases-loop-self : goal.decreases-loop-self
decreases-loop-self l = l.count - vec_len l.self.words

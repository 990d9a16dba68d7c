use Rattle.std.proofs.Common.{◌-◌, ◌*◌, ◌+◌, ◌<◌, vec_len}
use Rattle.raw_pool.proofs.Bits.{Scan}
use Rattle.raw_pool.proofs.tags.Tags.first_from.Given as goal

abbrev pub invariant-loop-word : goal.invariant-loop-word
invariant-loop-word l = record {
  scan : Scan l.self.words.items l.low l.index l.word;
  near : l.low < (l.index + 1) * 64;
}

abbrev pub decreases-loop-word : goal.decreases-loop-word
decreases-loop-word l = vec_len l.self.words - l.index

use Rattle.std.proofs.Common.{◌≡◌, ◌≤◌, ◌-◌, length, drop}
use Rattle.text_words.specs.Trims.{is_of, skipped}
use Rattle.text_words.proofs.trims.trim_start.Given as goal

abbrev pub invariant-loop-k : goal.invariant-loop-k
invariant-loop-k l = record {
  within : l.k ≤ length l.text;
  same : skipped (is_of l.class) (drop l.k l.text) ≡ skipped (is_of l.class) l.text;
}

abbrev pub decreases-loop-k : goal.decreases-loop-k
decreases-loop-k l = length l.text - l.k

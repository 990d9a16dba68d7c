use Rattle.std.proofs.Common.{◌≡◌, ◌≤◌, length, take}
use Rattle.text_words.specs.Trims.{is_of, trimmed}
use Rattle.text_words.proofs.trims.trim_end.Given as goal

abbrev pub invariant-loop-n : goal.invariant-loop-n
invariant-loop-n l = record {
  within : l.n ≤ length l.text;
  same : trimmed (is_of l.class) (take l.n l.text) ≡ trimmed (is_of l.class) l.text;
}

abbrev pub decreases-loop-n : goal.decreases-loop-n
decreases-loop-n l = l.n

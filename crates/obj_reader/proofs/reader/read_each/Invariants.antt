use Rattle.std.proofs.Common.{◌≡◌, ◌≤◌, ◌+◌, length}
use Rattle.text_words.specs.Text.{lines}
use Rattle.text_words.specs.Outcome.{steps}
use Rattle.obj_reader.specs.Holding.{AreParts}
use Rattle.obj_reader.specs.Progress.{start, step}
use Rattle.obj_reader.proofs.reader.read_each.Given as goal

-- the lines that are left, after what was read so far, make what all make
abbrev pub invariant-loop-line : goal.invariant-loop-line
invariant-loop-line l = record {
  same : steps (step l.scale) l.progress (lines l.rest) ≡ steps (step l.scale) start (lines l.text);
  parts : AreParts l.progress.number l.progress.parts;
  number : l.progress.number + length l.rest ≤ length l.text;
}

abbrev pub decreases-loop-line : goal.decreases-loop-line
decreases-loop-line l = length l.rest

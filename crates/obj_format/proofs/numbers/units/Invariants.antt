use Rattle.std.proofs.Common.{◌≡◌, ◌++◌, take, min}
use Rattle.text_words.specs.Text.{value}
use Rattle.obj_format.specs.Numbers.{padded}
use Rattle.obj_format.proofs.numbers.units.Given as goal

abbrev pub invariant-loop-k : goal.invariant-loop-k
invariant-loop-k l = l.n ≡ min 1000000001 (value (take l.k (l.whole ++ padded l.scale l.part)))

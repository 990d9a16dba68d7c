use Rattle.std.proofs.Common.{◌≡◌, ◌<◌, ◌^◌, take, min}
use Rattle.text_words.specs.Text.{value}
use Rattle.text_words.proofs.numbers.capped_value.Given as goal

abbrev pub invariant-loop-d : goal.invariant-loop-d
invariant-loop-d l = record {
  told : l.n ≡ min l.most (value (take l.d-index l.ds));
  small : l.n < 10 ^ l.d-index;
}

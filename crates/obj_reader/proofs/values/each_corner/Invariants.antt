use Rattle.std.proofs.Common.{◌≡◌, drop}
use Rattle.std.specs.List.{All}
use Rattle.text_words.specs.Each.{each, with_front}
use Rattle.obj_format.specs.Indices.{corner, IsRead}
use Rattle.obj_reader.proofs.values.each_corner.Given as goal

abbrev pub invariant-loop-word : goal.invariant-loop-word
invariant-loop-word l = record {
  same : with_front l.corners (each (λ w. corner l.counts w.now) (drop l.word-index l.words))
      ≡ each (λ w. corner l.counts w.now) l.words;
  read : All (IsRead l.counts) l.corners;
}

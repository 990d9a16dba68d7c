use Rattle.std.proofs.lemmas.List.Splits.{join_with_byte-slice_split}
use Rattle.text_words.proofs.laws.parts_join.Goals as goal

pub returns : goal.returns
returns c = λ separator text. join_with_byte-slice_split separator text

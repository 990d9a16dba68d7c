use Rattle.std.proofs.Common.{◌∙◌, sym}
use Rattle.obj_format.specs.Numbers.{is_numeral}
use Rattle.text_words.proofs.EachLemmas.{list_all_map}
use Rattle.obj_reader.proofs.values.are_numerals.Goals as goal

pub returns : goal.returns
returns c = c.all_numerals.ensures ∙ sym (list_all_map is_numeral (λ w. w.now) c.args.words.now)

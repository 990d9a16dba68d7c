use Rattle.text_words.proofs.NumberLemmas.{natural-decimal, integer-signed_decimal}
use Rattle.text_words.proofs.laws.printed_numbers_return.Goals as goal

pub returns-clause-naturals : goal.returns-clause-naturals
returns-clause-naturals c = natural-decimal

pub returns-clause-integers : goal.returns-clause-integers
returns-clause-integers c = integer-signed_decimal

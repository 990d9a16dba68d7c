use Rattle.command_line.proofs.PlainLemmas.{spelled_read}
use Rattle.command_line.proofs.laws.plain_words.Goals as goal

pub returns : goal.returns
returns c = spelled_read

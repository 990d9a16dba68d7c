use Rattle.obj_text.proofs.GivenLemmas.{names_given}
use Rattle.obj_text.proofs.laws.names_given.Goals as goal

pub returns : goal.returns
returns c = names_given

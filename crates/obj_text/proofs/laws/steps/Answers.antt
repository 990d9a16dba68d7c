use Rattle.obj_reader.proofs.ProgressLemmas.{steps_read}
use Rattle.obj_text.proofs.laws.steps.Goals as goal

pub returns : goal.returns
returns c = steps_read

use Rattle.obj_text.proofs.ReturnLemmas.{read_written}
use Rattle.obj_text.proofs.laws.read_written.Goals as goal

pub returns : goal.returns
returns c = read_written

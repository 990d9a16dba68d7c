use Rattle.script_text.proofs.BuiltLemmas.{script_built}
use Rattle.script_text.proofs.laws.built.Goals as goal

pub returns : goal.returns
returns c = script_built

use Rattle.mesh_model.proofs.TestLaws.{shows_simple}
use Rattle.mesh_model.proofs.laws.incidence.simple.Goals as goal

pub returns : goal.returns
returns c = shows_simple

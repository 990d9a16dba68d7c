use Rattle.mesh_model.proofs.TestLaws.{shows_valid}
use Rattle.mesh_model.proofs.laws.incidence.valid.Goals as goal

pub returns : goal.returns
returns c = shows_valid

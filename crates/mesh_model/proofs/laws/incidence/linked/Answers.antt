use Rattle.mesh_model.proofs.TestLaws.{shows_linked}
use Rattle.mesh_model.proofs.laws.incidence.linked.Goals as goal

pub returns : goal.returns
returns c = shows_linked

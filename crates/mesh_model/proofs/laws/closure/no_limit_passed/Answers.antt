use Rattle.mesh_model.proofs.LimitTests.{no_limit_passed}
use Rattle.mesh_model.proofs.laws.closure.no_limit_passed.Goals as goal

pub returns : goal.returns
returns c = no_limit_passed

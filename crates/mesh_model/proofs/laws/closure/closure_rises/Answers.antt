use Rattle.mesh_model.proofs.Closures.{rising-closure}
use Rattle.mesh_model.proofs.laws.closure.closure_rises.Goals as goal

pub returns : goal.returns
returns c = rising-closure

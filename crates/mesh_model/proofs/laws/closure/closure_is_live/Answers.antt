use Rattle.mesh_model.proofs.Closures.{live-closure}
use Rattle.mesh_model.proofs.laws.closure.closure_is_live.Goals as goal

pub returns : goal.returns
returns c = live-closure

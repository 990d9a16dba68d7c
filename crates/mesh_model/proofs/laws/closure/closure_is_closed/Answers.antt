use Rattle.mesh_model.proofs.Closures.{closure-closure}
use Rattle.mesh_model.proofs.laws.closure.closure_is_closed.Goals as goal

pub returns : goal.returns
returns c = closure-closure

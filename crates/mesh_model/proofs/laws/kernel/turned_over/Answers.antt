use Rattle.mesh_model.proofs.Reversed.{turned_over}
use Rattle.mesh_model.proofs.laws.kernel.turned_over.Goals as goal

pub returns : goal.returns
returns c = turned_over

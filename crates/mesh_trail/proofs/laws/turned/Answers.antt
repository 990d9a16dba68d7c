use Rattle.mesh_model.proofs.ChangeSets.{opposite_turns}
use Rattle.mesh_trail.proofs.laws.turned.Goals as goal

pub returns : goal.returns
returns c = opposite_turns

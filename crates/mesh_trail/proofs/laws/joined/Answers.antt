use Rattle.mesh_model.proofs.ChangeSets.{joined_leads}
use Rattle.mesh_trail.proofs.laws.joined.Goals as goal

pub returns : goal.returns
returns c = joined_leads

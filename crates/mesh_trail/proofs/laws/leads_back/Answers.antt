use Rattle.mesh_model.proofs.ChangeSets.{leads_back}
use Rattle.mesh_trail.proofs.laws.leads_back.Goals as goal

pub returns : goal.returns
returns c = leads_back

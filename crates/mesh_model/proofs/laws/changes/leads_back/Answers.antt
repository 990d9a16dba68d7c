use Rattle.mesh_model.proofs.ChangeSets.{leads_back}
use Rattle.mesh_model.proofs.laws.changes.leads_back.Goals as goal

pub returns : goal.returns
returns c = leads_back

use Rattle.mesh_model.proofs.ChangeSets.{trim_is_change_set, trim_leads}
use Rattle.mesh_trail.proofs.laws.trimmed.Goals as goal

pub returns-clause-change_set : goal.returns-clause-change_set
returns-clause-change_set c = trim_is_change_set

pub returns-clause-leads : goal.returns-clause-leads
returns-clause-leads c = trim_leads

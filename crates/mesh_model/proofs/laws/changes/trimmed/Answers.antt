use Rattle.mesh_model.proofs.ChangeSets.{trim_is_change_set, trim_leads}
use Rattle.mesh_model.proofs.laws.changes.trimmed.Goals as goal

pub returns : goal.returns
returns c = record { change_set = trim_is_change_set; leads = trim_leads }

use Rattle.mesh_trail.proofs.Leading.{change_leads, change_stays_whole}
use Rattle.mesh_trail.proofs.laws.noted_changes.Goals as goal

pub returns-clause-leads : goal.returns-clause-leads
returns-clause-leads c = change_leads

pub returns-clause-whole : goal.returns-clause-whole
returns-clause-whole c = change_stays_whole

use Rattle.mesh_trail.proofs.Leading.{note_leads, note_stays_whole}
use Rattle.mesh_trail.proofs.laws.first_note.Goals as goal

pub returns-clause-leads : goal.returns-clause-leads
returns-clause-leads c = note_leads

pub returns-clause-whole : goal.returns-clause-whole
returns-clause-whole c = note_stays_whole

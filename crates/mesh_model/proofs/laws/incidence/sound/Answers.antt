use Rattle.mesh_model.proofs.TestLaws.{shows_sound}
use Rattle.mesh_model.proofs.laws.incidence.sound.Goals as goal

pub returns : goal.returns
returns c = shows_sound

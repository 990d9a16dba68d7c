use Rattle.mesh_model.proofs.IncidenceLaws.{is_bare-edges_at}
use Rattle.mesh_model.proofs.laws.incidence.bare.Goals as goal

pub returns : goal.returns
returns c = is_bare-edges_at

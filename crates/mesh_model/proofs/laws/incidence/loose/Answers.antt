use Rattle.mesh_model.proofs.IncidenceLaws.{is_loose-corners_at_edge}
use Rattle.mesh_model.proofs.laws.incidence.loose.Goals as goal

pub returns : goal.returns
returns c = is_loose-corners_at_edge

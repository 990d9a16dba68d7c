use Rattle.mesh_model.proofs.Ranks.{rank-get_or}
use Rattle.mesh_model.proofs.laws.closure.rank_is_position.Goals as goal

pub returns : goal.returns
returns c = rank-get_or

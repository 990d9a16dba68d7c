use Rattle.mesh_trail.proofs.Leading.{begins_at_now}
use Rattle.mesh_trail.proofs.laws.begins.Goals as goal

pub returns : goal.returns
returns c = begins_at_now

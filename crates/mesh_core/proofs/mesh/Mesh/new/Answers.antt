use Rattle.mesh_records.proofs.Empty.{empty_whole}
use Rattle.mesh_core.proofs.mesh.Mesh.new.Goals as goal

pub invariant_of-result : goal.invariant_of-result
invariant_of-result c = record { whole = empty_whole c.new.result c.new.ensures; back = tt }

use Rattle.mesh_model.proofs.Deletings.{AreClosed-valid}
use Rattle.mesh_model.proofs.KernelKillings.{without_vert-without_verts}
use Rattle.mesh_model.proofs.laws.kernel.killed_alone.Goals as goal

pub returns : goal.returns
returns c = λ d v h. without_vert-without_verts d v (AreClosed-valid d h)

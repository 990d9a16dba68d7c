use Rattle.mesh_model.proofs.KernelUpdates.{reversed_face-reversed_face}
use Rattle.mesh_model.proofs.laws.kernel.turned_twice.Goals as goal

pub returns : goal.returns
returns c = reversed_face-reversed_face

use Rattle.std.proofs.Common.{refl}
use Rattle.mesh_passes.specs.Killing.{without_faces, without_edges, without_loose, without_bare}
use Rattle.op_basic.proofs.laws.deletes.Goals as goal

pub returns-clause-faces : goal.returns-clause-faces
unfolding without_faces without_edges without_loose without_bare
returns-clause-faces c = (refl, refl, refl, refl, refl)

pub returns-clause-edges : goal.returns-clause-edges
unfolding without_faces without_edges without_loose without_bare
returns-clause-edges c = (refl, refl, refl)

pub returns-clause-verts : goal.returns-clause-verts
unfolding without_faces without_edges without_loose without_bare
returns-clause-verts c = refl

pub returns-clause-boundary : goal.returns-clause-boundary
unfolding without_faces without_edges without_loose without_bare
returns-clause-boundary c = (refl, refl, refl, refl)

pub returns-clause-more : goal.returns-clause-more
unfolding without_faces without_edges without_loose without_bare
returns-clause-more c = (refl, refl, refl)

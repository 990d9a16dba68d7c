use Rattle.std.proofs.Common.{refl}
use Rattle.mesh_passes.specs.Killing.{without_faces, without_loose, without_bare}
use Rattle.op_copies.proofs.laws.copies.Goals as goal

pub returns-clause-duplicates : goal.returns-clause-duplicates
returns-clause-duplicates c = refl

pub returns-clause-values : goal.returns-clause-values
unfolding without_faces without_loose without_bare
returns-clause-values c = (refl, refl)

pub returns-clause-corners : goal.returns-clause-corners
returns-clause-corners c = refl

pub returns-clause-splits : goal.returns-clause-splits
unfolding without_faces without_loose without_bare
returns-clause-splits c = refl

pub returns-clause-vert : goal.returns-clause-vert
unfolding without_faces without_loose without_bare
returns-clause-vert c = refl

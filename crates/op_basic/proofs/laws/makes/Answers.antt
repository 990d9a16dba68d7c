use Rattle.std.proofs.Common.{refl}
use Rattle.op_basic.proofs.laws.makes.Goals as goal

pub returns-clause-verts : goal.returns-clause-verts
returns-clause-verts c = (refl, refl)

pub returns-clause-edges : goal.returns-clause-edges
returns-clause-edges c = refl

pub returns-clause-faces : goal.returns-clause-faces
returns-clause-faces c = (refl, refl, refl, refl, refl, refl)

pub returns-clause-others : goal.returns-clause-others
returns-clause-others c = (refl, refl, refl, refl, refl)

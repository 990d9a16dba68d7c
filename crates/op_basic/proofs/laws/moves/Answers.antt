use Rattle.std.proofs.Common.{refl}
use Rattle.mesh_passes.specs.Moving.{moved}
use Rattle.op_basic.proofs.laws.moves.Goals as goal

pub returns-clause-translates : goal.returns-clause-translates
unfolding moved
returns-clause-translates c = (refl, refl)

pub returns-clause-leaves : goal.returns-clause-leaves
unfolding moved
returns-clause-leaves c = (refl, refl, refl)

pub returns-clause-turns : goal.returns-clause-turns
unfolding moved
returns-clause-turns c = (refl, refl, refl, refl)

pub returns-clause-scales : goal.returns-clause-scales
unfolding moved
returns-clause-scales c = (refl, refl, refl, refl, refl, refl)

pub returns-clause-mirrors : goal.returns-clause-mirrors
unfolding moved
returns-clause-mirrors c = (refl, refl, refl)

use Rattle.std.proofs.Common.{refl}
use Rattle.mesh_passes.specs.Turning.{turned_over}
use Rattle.op_basic.proofs.laws.reverses.Goals as goal

pub returns-clause-all : goal.returns-clause-all
unfolding turned_over
returns-clause-all c = refl

pub returns-clause-one : goal.returns-clause-one
unfolding turned_over
returns-clause-one c = refl

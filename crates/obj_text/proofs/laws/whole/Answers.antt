use Rattle.std.proofs.Common.{refl}
use Rattle.std.specs.Fmt.{digits}
use Rattle.obj_text.proofs.laws.whole.Goals as goal

pub returns-clause-sample : goal.returns-clause-sample
unfolding digits
returns-clause-sample c = refl

pub returns-clause-places : goal.returns-clause-places
unfolding digits
returns-clause-places c = (refl, refl)

pub returns-clause-cube : goal.returns-clause-cube
unfolding digits
returns-clause-cube c = refl

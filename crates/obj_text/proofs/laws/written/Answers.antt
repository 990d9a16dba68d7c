use Rattle.std.proofs.Common.{refl}
use Rattle.std.specs.Fmt.{digits}
use Rattle.obj_text.proofs.laws.written.Goals as goal

pub returns-clause-square : goal.returns-clause-square
unfolding digits
returns-clause-square c = refl

pub returns-clause-cut : goal.returns-clause-cut
unfolding digits
returns-clause-cut c = refl

pub returns-clause-numbers : goal.returns-clause-numbers
unfolding digits
returns-clause-numbers c = (refl, refl, refl, refl)

use Rattle.std.proofs.Common.{refl}
use Rattle.op_values.specs.Setting.{with_vert_numbers, with_edge_numbers, with_corner_numbers, with_face_numbers}
use Rattle.op_values.proofs.laws.sets.Goals as goal

pub returns-clause-values : goal.returns-clause-values
unfolding with_vert_numbers with_edge_numbers with_corner_numbers with_face_numbers
returns-clause-values c = (refl, refl, refl, refl, refl)

pub returns-clause-corners : goal.returns-clause-corners
unfolding with_vert_numbers with_edge_numbers with_corner_numbers with_face_numbers
returns-clause-corners c = refl

pub returns-clause-layers : goal.returns-clause-layers
unfolding with_vert_numbers with_edge_numbers with_corner_numbers with_face_numbers
returns-clause-layers c = (refl, refl, refl, refl, refl, refl, refl, refl)

use Rattle.std.proofs.Common.{[], ◌∷◌}
use Rattle.kernel_tests.proofs.rings.edit.Goals as goal

pub members-requires-2 : goal.members-requires-2
members-requires-2 g c = (2 ∷ 1 ∷ 3 ∷ [], c.reverse.ensures.ring (3 ∷ 1 ∷ 2 ∷ []) c.insert_three.ensures.ring)

pub take_apart-requires-clause-ring : goal.take_apart-requires-clause-ring
take_apart-requires-clause-ring g c = c.reverse.ensures.ring (3 ∷ 1 ∷ 2 ∷ []) c.insert_three.ensures.ring

use Rattle.mesh_store.proofs.Names.{first_live}
use Rattle.kernel_tests.proofs.stores.elements.count_even.Goals as goal

pub vert_number-requires : goal.vert_number-requires
vert_number-requires c = first_live c.in-Some.ensures.named _ c.in-Some.slot c.in-Some.ensures.slot

pub point-requires : goal.point-requires
point-requires c = first_live c.in-Some.ensures.named _ c.in-Some.slot c.in-Some.ensures.slot

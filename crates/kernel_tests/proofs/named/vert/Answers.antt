use Rattle.std.proofs.Common.{◌∙◌, sym}
use Rattle.mesh_store.proofs.Names.{named_live}
use Rattle.kernel_tests.proofs.named.vert.Goals as goal

pub returns : goal.returns
returns g c = named_live c.vert_slot.ensures.named c.args.name c.given.result
    (sym c.given.ensures ∙ c.vert_slot.ensures.slot)

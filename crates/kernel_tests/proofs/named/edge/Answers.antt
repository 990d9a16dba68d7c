use Rattle.std.proofs.Common.{◌∙◌, sym}
use Rattle.mesh_store.proofs.Names.{named_live}
use Rattle.kernel_tests.proofs.named.edge.Goals as goal

pub returns : goal.returns
returns g c = named_live c.edge_slot.ensures.named c.args.name c.given.result
    (sym c.given.ensures ∙ c.edge_slot.ensures.slot)

use Rattle.mesh_records.proofs.Elements.{name_live}
use Rattle.mesh_core.proofs.around.edges_at.Goals as goal

pub edges_of_vert-requires-clause-live : goal.edges_of_vert-requires-clause-live
edges_of_vert-requires-clause-live c = name_live c.requires.whole.1.records.named.verts c.args.v
    c.slot_of_vert-slot.result c.slot_of_vert-slot.ensures

use Rattle.std.proofs.Common.{◌≡◌, Some, sym, ◌∙◌}
use Rattle.mesh_store.specs.Slots.{at}
use Rattle.mesh_records.proofs.Elements.{name_live}
use Rattle.mesh_records.proofs.Owners.{first_end, second_end}
use Rattle.mesh_core.proofs.conditions.ends_at.Goals as goal

pub ends-requires : goal.ends-requires
ends-requires c =
    let named : at c.args.st.now.edges.names c.args.e.0 ≡ Some c.in-Some.edge =
    sym c.edge_slot.ensures.slot ∙ c.in-Some.is in
    name_live c.edge_slot.ensures.named c.args.e.0 c.in-Some.edge named

pub vert_number-requires : goal.vert_number-requires
vert_number-requires c = first_end c.args.st.now c.requires.linked c.in-Some.edge c.ends.result c.ends.ensures

pub vert_number-requires-else-vert_number-v : goal.vert_number-requires-else-vert_number-v
vert_number-requires-else-vert_number-v c = second_end c.args.st.now c.requires.linked c.in-Some.edge c.ends.result
    c.ends.ensures

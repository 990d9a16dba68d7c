use Rattle.std.proofs.Common.{[], ◌∷◌, sym, ap, ◌∙◌}
use Rattle.std.specs.Option.{option_map}
use Rattle.mesh_model.specs.Table.{at}
use Rattle.mesh_model.specs.Complex.{Complex}
use Rattle.mesh_model.specs.declared.records.EdgeRec.{EdgeRec}
use Rattle.mesh_records.specs.ReadOff.{NameLists}
use Rattle.mesh_core.specs.Seen.{now}
use Rattle.mesh_records.proofs.Elements.{name_live}
use Rattle.mesh_records.proofs.Examples.{edge_of_name}
use Rattle.mesh_records.proofs.Owners.{first_end, second_end}
use Rattle.mesh_records.proofs.ReadBack.{ends_read}
use Rattle.mesh_core.proofs.mesh_shape.MeshShape.ends.Goals as goal

pub slot_of_edge-edge-requires : goal.slot_of_edge-edge-requires
slot_of_edge-edge-requires c = edge_of_name c.self.inside.store c.self.inside.next _ (now c.args.self.now) c.args.e.0
    (ap now c.self.view_is) c.requires

pub ends-requires : goal.ends-requires
ends-requires c = name_live c.self.invariant.whole.records.named.edges c.args.e.0 c.slot_of_edge-edge.result
    c.slot_of_edge-edge.ensures

pub vert_number-requires : goal.vert_number-requires
vert_number-requires c = first_end c.self.inside.store c.self.invariant.whole.records.linked c.slot_of_edge-edge.result
    c.ends.result c.ends.ensures

pub vert_number-requires-2 : goal.vert_number-requires-2
vert_number-requires-2 c = second_end c.self.inside.store c.self.invariant.whole.records.linked c.slot_of_edge-edge.result
    c.ends.result c.ends.ensures

pub returns : goal.returns
returns c =
    let lists : NameLists = record { materials = c.self.inside.materials; libraries = c.self.inside.libraries } in
    sym (ap (λ (x : Complex). option_map (λ (r : EdgeRec). r.a ∷ r.b ∷ []) (at x.edges c.args.e.0))
    (ap now c.self.view_is))
    ∙ ends_read c.self.inside.store c.self.inside.next lists c.self.invariant.whole c.args.e.0 c.slot_of_edge-edge.result
    c.ends.result c.vert_number.result c.vert_number-2.result
    c.slot_of_edge-edge.ensures c.ends.ensures c.vert_number.ensures c.vert_number-2.ensures

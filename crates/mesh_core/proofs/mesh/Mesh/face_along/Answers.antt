use Rattle.std.proofs.Common.{sym, ap, ◌∙◌}
use Rattle.mesh_model.specs.Table.{at, passes}
use Rattle.mesh_model.specs.Incidence.{is_loose, uses_edge}
use Rattle.mesh_model.specs.Complex.{Complex}
use Rattle.mesh_records.specs.ReadOff.{NameLists}
use Rattle.mesh_core.specs.Seen.{now}
use Rattle.mesh_records.proofs.Elements.{name_live}
use Rattle.mesh_records.proofs.Examples.{edge_of_name}
use Rattle.mesh_records.proofs.Along.{first_uses, none_uses}
use Rattle.mesh_records.proofs.Owners.{loop_face}
use Rattle.mesh_core.proofs.mesh.Mesh.face_along.Goals as goal

pub slot_of_edge-edge-requires : goal.slot_of_edge-edge-requires
slot_of_edge-edge-requires c = edge_of_name c.self.inside.store c.self.inside.next _ (now c.args.self.now) c.args.e.0
    (ap now c.self.view_is) c.requires

pub first_loop-requires : goal.first_loop-requires
first_loop-requires c = name_live c.self.invariant.whole.records.named.edges c.args.e.0 c.slot_of_edge-edge.result
    c.slot_of_edge-edge.ensures

pub returns-in-None : goal.returns-in-None
returns-in-None c =
    let lists : NameLists = record { materials = c.self.inside.materials; libraries = c.self.inside.libraries } in
    sym (ap (λ (x : Complex). is_loose x c.args.e) (ap now c.self.view_is))
    ∙ none_uses c.self.inside.store c.self.inside.next lists c.self.invariant.whole c.args.e c.slot_of_edge-edge.result
    c.slot_of_edge-edge.ensures c.in-None.ensures

pub returns-in-Some : goal.returns-in-Some
returns-in-Some c =
    let lists : NameLists = record { materials = c.self.inside.materials; libraries = c.self.inside.libraries } in
    sym (ap (λ (x : Complex). passes (uses_edge c.args.e) (at x.faces c.face_number.result)) (ap now c.self.view_is))
    ∙ first_uses c.self.inside.store c.self.inside.next lists c.self.invariant.whole c.args.e c.slot_of_edge-edge.result
    c.slot_of_edge-edge.ensures c.in-Some.l c.loop_face-f.result c.face_number.result
    c.in-Some.ensures c.loop_face-f.ensures c.face_number.ensures

pub face_number-requires : goal.face_number-requires
face_number-requires c = loop_face c.self.inside.store c.self.invariant.whole.records.linked c.in-Some.l c.loop_face-f.result
    c.loop_face-f.ensures

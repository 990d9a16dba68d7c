use Rattle.std.proofs.Common.{List, map, sym, ap, subst}
use Rattle.raw_pool.specs.declared.pool.Slot.{Slot}
use Rattle.mesh_cycles.specs.Found.{loops_along, faces_along}
use Rattle.mesh_cycles.proofs.Around.{along_live}
use Rattle.mesh_model.specs.Incidence.{is_along}
use Rattle.mesh_model.specs.Complex.{Complex}
use Rattle.mesh_model.specs.declared.names.FaceName.{FaceName}
use Rattle.mesh_records.specs.ReadOff.{NameLists}
use Rattle.mesh_core.specs.Seen.{now}
use Rattle.mesh_records.specs.Order.{faces_at_edge}
use Rattle.mesh_records.specs.StandsFor.{ListsOnce, face_name}
use Rattle.mesh_records.proofs.Elements.{name_live}
use Rattle.mesh_records.proofs.Examples.{edge_of_name}
use Rattle.mesh_records.proofs.AlongEdge.{along_lists}
use Rattle.mesh_records.proofs.FacesWhere.{faces_list}
use Rattle.mesh_core.proofs.mesh.Mesh.faces_of_edge.Goals as goal

pub slot_of_edge-edge-requires : goal.slot_of_edge-edge-requires
slot_of_edge-edge-requires c = edge_of_name c.self.inside.store c.self.inside.next _ (now c.args.self.now) c.args.e.0
    (ap now c.self.view_is) c.requires

pub faces_at_edge-requires-clause-live : goal.faces_at_edge-requires-clause-live
faces_at_edge-requires-clause-live c = name_live c.self.invariant.whole.records.named.edges c.args.e.0
    c.slot_of_edge-edge.result c.slot_of_edge-edge.ensures

pub returns-clause-items : goal.returns-clause-items
returns-clause-items c =
    let st = c.self.inside.store in
    let lists : NameLists = record { materials = c.self.inside.materials; libraries = c.self.inside.libraries } in
    let items : List FaceName = map (λ (f : Slot). face_name st f.0) (faces_along st c.slot_of_edge-edge.result.0) in
    let edge = c.slot_of_edge-edge.result in
    let once = faces_list st c.self.inside.next lists c.self.invariant.whole (is_along c.args.e) (loops_along st edge.0)
    (faces_along st edge.0) (along_live st c.self.invariant.whole.cycles.cycles edge.0)
    (along_lists st c.self.inside.next lists c.self.invariant.whole c.args.e.0 edge c.slot_of_edge-edge.ensures)
    c.faces_at_edge.ensures.once c.faces_at_edge.ensures.all in
    let P = λ (x : Complex). ListsOnce items (faces_at_edge x c.args.e) in
    let Q = λ (fs : List FaceName). ListsOnce fs (faces_at_edge (now c.args.self.now) c.args.e) in
    subst Q (sym c.faces_at_edge.ensures.items) (subst P (ap now c.self.view_is) once)

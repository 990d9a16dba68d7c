use Rattle.std.proofs.Common.{List, ℕ, map, sym, ap, subst}
use Rattle.mesh_cycles.specs.Found.{loops_along}
use Rattle.mesh_model.specs.Complex.{Complex}
use Rattle.mesh_model.specs.Incidence.{corners_at_edge}
use Rattle.mesh_model.specs.declared.names.FaceName.{FaceName}
use Rattle.mesh_records.specs.ReadOff.{NameLists}
use Rattle.mesh_core.specs.Seen.{now}
use Rattle.mesh_records.specs.StandsFor.{ListsOnce, place_of}
use Rattle.mesh_records.proofs.Elements.{name_live}
use Rattle.mesh_records.proofs.Examples.{edge_of_name}
use Rattle.mesh_records.proofs.Stands.{stands_for}
use Rattle.mesh_core.proofs.mesh.Mesh.loops_of_edge.Goals as goal

pub slot_of_edge-edge-requires : goal.slot_of_edge-edge-requires
slot_of_edge-edge-requires c = edge_of_name c.self.inside.store c.self.inside.next _ (now c.args.self.now) c.args.e.0
    (ap now c.self.view_is) c.requires

pub corners_at_edge-requires-clause-live : goal.corners_at_edge-requires-clause-live
corners_at_edge-requires-clause-live c =
    name_live c.self.invariant.whole.records.named.edges c.args.e.0 c.slot_of_edge-edge.result c.slot_of_edge-edge.ensures

pub returns-clause-items : goal.returns-clause-items
returns-clause-items c =
    let st = c.self.inside.store in
    let lists : NameLists = record { materials = c.self.inside.materials; libraries = c.self.inside.libraries } in
    let items : List (FaceName × ℕ) = map (place_of st) (loops_along st c.slot_of_edge-edge.result.0) in
    let once = (stands_for st c.self.inside.next lists c.self.invariant.whole).radials c.args.e.0 c.slot_of_edge-edge.result
    c.slot_of_edge-edge.ensures in
    let P = λ (x : Complex). ListsOnce items (corners_at_edge x c.args.e) in
    let Q = λ (ks : List (FaceName × ℕ)). ListsOnce ks (corners_at_edge (now c.args.self.now) c.args.e) in
    subst Q (sym c.corners_at_edge.ensures.items) (subst P (ap now c.self.view_is) once)

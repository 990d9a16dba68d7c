use Rattle.std.proofs.Common.{List, ℕ, map, sym, ap, subst}
use Rattle.mesh_cycles.specs.Found.{loops_around}
use Rattle.mesh_model.specs.Complex.{Complex}
use Rattle.mesh_model.specs.declared.names.FaceName.{FaceName}
use Rattle.mesh_records.specs.ReadOff.{NameLists}
use Rattle.mesh_core.specs.Seen.{now}
use Rattle.mesh_records.specs.Order.{corners_of_vert}
use Rattle.mesh_records.specs.StandsFor.{ListsOnce, place_of}
use Rattle.mesh_records.proofs.Elements.{name_live}
use Rattle.mesh_records.proofs.Examples.{vert_of_name}
use Rattle.mesh_core.proofs.ValidCorners.{valid_corners}
use Rattle.mesh_records.proofs.CornersAround.{around_corners}
use Rattle.mesh_core.proofs.mesh.Mesh.loops_of_vert.Goals as goal

pub slot_of_vert-vert-requires : goal.slot_of_vert-vert-requires
slot_of_vert-vert-requires c = vert_of_name c.self.inside.store c.self.inside.next _ (now c.args.self.now) c.args.v.0
    (ap now c.self.view_is) c.requires

pub corners_at_vert-requires-clause-live : goal.corners_at_vert-requires-clause-live
corners_at_vert-requires-clause-live c =
    name_live c.self.invariant.whole.records.named.verts c.args.v.0 c.slot_of_vert-vert.result c.slot_of_vert-vert.ensures

pub returns-clause-items : goal.returns-clause-items
returns-clause-items c =
    let st = c.self.inside.store in
    let lists : NameLists = record { materials = c.self.inside.materials; libraries = c.self.inside.libraries } in
    let items : List (FaceName × ℕ) = map (place_of st) (loops_around st c.slot_of_vert-vert.result.0) in
    let once = around_corners st c.self.inside.next lists c.self.invariant.whole c.args.v c.slot_of_vert-vert.result
    c.slot_of_vert-vert.ensures in
    let P = λ (x : Complex). ListsOnce items (corners_of_vert x c.args.v) in
    let Q = λ (ks : List (FaceName × ℕ)). ListsOnce ks (corners_of_vert (now c.args.self.now) c.args.v) in
    subst Q (sym c.corners_at_vert.ensures.items) (subst P (ap now c.self.view_is) once)

pub returns-clause-valid : goal.returns-clause-valid
returns-clause-valid c = valid_corners (now c.args.self.now) c.args.v

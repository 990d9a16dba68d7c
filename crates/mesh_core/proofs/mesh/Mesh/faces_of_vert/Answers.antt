use Rattle.std.proofs.Common.{List, map, sym, ap, subst}
use Rattle.raw_pool.specs.declared.pool.Slot.{Slot}
use Rattle.mesh_cycles.specs.Found.{loops_around, faces_around}
use Rattle.mesh_cycles.proofs.Around.{around_live}
use Rattle.mesh_model.specs.Complex.{Complex}
use Rattle.mesh_model.specs.declared.names.FaceName.{FaceName}
use Rattle.mesh_records.specs.ReadOff.{NameLists}
use Rattle.mesh_core.specs.Seen.{now}
use Rattle.mesh_records.specs.ReadOff.{read_off}
use Rattle.mesh_records.specs.Order.{has_corner_at, faces_of_vert}
use Rattle.mesh_records.specs.StandsFor.{ListsOnce, face_name}
use Rattle.mesh_records.proofs.CornersAround.{around_corners}
use Rattle.mesh_records.proofs.Elements.{name_live}
use Rattle.mesh_records.proofs.Examples.{vert_of_name}
use Rattle.mesh_records.proofs.FacesWhere.{faces_list}
use Rattle.mesh_core.proofs.mesh.Mesh.faces_of_vert.Goals as goal

pub slot_of_vert-vert-requires : goal.slot_of_vert-vert-requires
slot_of_vert-vert-requires c = vert_of_name c.self.inside.store c.self.inside.next _ (now c.args.self.now) c.args.v.0
    (ap now c.self.view_is) c.requires

pub faces_at_vert-requires-clause-live : goal.faces_at_vert-requires-clause-live
faces_at_vert-requires-clause-live c = name_live c.self.invariant.whole.records.named.verts c.args.v.0
    c.slot_of_vert-vert.result c.slot_of_vert-vert.ensures

pub returns-clause-items : goal.returns-clause-items
returns-clause-items c =
    let st = c.self.inside.store in
    let n = c.self.inside.next in
    let w = c.self.invariant.whole in
    let lists : NameLists = record { materials = c.self.inside.materials; libraries = c.self.inside.libraries } in
    let vert = c.slot_of_vert-vert.result in
    let items : List FaceName = map (λ (f : Slot). face_name st f.0) (faces_around st vert.0) in
    let live = around_live st w.cycles.cycles vert.0 in
    let corners = around_corners st n lists w c.args.v vert c.slot_of_vert-vert.ensures in
    let once = faces_list st n lists w (has_corner_at (read_off st n lists) c.args.v) (loops_around st vert.0)
    (faces_around st vert.0) live corners c.faces_at_vert.ensures.once c.faces_at_vert.ensures.all in
    let P = λ (x : Complex). ListsOnce items (faces_of_vert x c.args.v) in
    let Q = λ (fs : List FaceName). ListsOnce fs (faces_of_vert (now c.args.self.now) c.args.v) in
    subst Q (sym c.faces_at_vert.ensures.items) (subst P (ap now c.self.view_is) once)

use Rattle.std.proofs.Common.{◌≤◌, ◌<◌, is_some, length, Option, sym, ap, ◌∙◌, subst, arith, ℕ}
use Rattle.std.proofs.lemmas.List.{length-map}
use Rattle.std.proofs.lemmas.Option.{same_Some}
use Rattle.raw_pool.specs.Slots.{IsLive}
use Rattle.mesh_store.specs.declared.cells.Round.{Round}
use Rattle.mesh_cycles.specs.Cycles.{round_of}
use Rattle.mesh_model.specs.Table.{at}
use Rattle.mesh_model.specs.Complex.{Complex, corners_of}
use Rattle.mesh_model.specs.Kernel.{without_corner}
use Rattle.mesh_records.specs.ReadOff.{NameLists}
use Rattle.mesh_records.specs.Room.{Amounts, UsesAtMost, none_of_all, room_in}
use Rattle.mesh_core.specs.Seen.{now, disks, room}
use Rattle.mesh_records.proofs.CornersLost.{placed, takes_corner, keeps_corner}
use Rattle.mesh_records.proofs.Elements.{name_live}
use Rattle.mesh_records.proofs.Examples.{face_of_name}
use Rattle.mesh_records.proofs.Kills.{loops_of_name, corners_there}
use Rattle.mesh_records.proofs.Loses.{loop_of}
use Rattle.mesh_records.proofs.Places.{keeps_without_loop}
use Rattle.mesh_core.proofs.Kept.{mesh_kept}
use Rattle.mesh_core.proofs.mesh.Mesh.remove_corner.Goals as goal

pub slot_of_face-face-requires : goal.slot_of_face-face-requires
slot_of_face-face-requires c = face_of_name c.self.inside.store c.self.inside.next _ (now c.args.self.now) c.args.f.0
    (ap now c.self.view_is) c.requires.there

pub loop_at-corner-requires-clause-live : goal.loop_at-corner-requires-clause-live
loop_at-corner-requires-clause-live c = name_live c.self.invariant.whole.records.named.faces c.args.f.0
    c.slot_of_face-face.result c.slot_of_face-face.ensures

pub loop_at-corner-requires-clause-within : goal.loop_at-corner-requires-clause-within
loop_at-corner-requires-clause-within c =
    let P = λ (x : Complex). c.args.i < length (corners_of (at x.faces c.args.f.0)) in
    let within = subst P (sym (ap now c.self.view_is)) c.requires.within in
    let count = loops_of_name c.self.inside.store c.self.inside.next c.self.invariant.whole c.args.f.0
    c.slot_of_face-face.result c.slot_of_face-face.ensures in
    omega arith

pub take_loop-requires-clause-edge_live : goal.take_loop-requires-clause-edge_live
take_loop-requires-clause-edge_live c =
    let st = c.self.inside.store in
    let m = placed st c.slot_of_face-face.result c.loop_at-corner.result c.args.i c.loop_at-corner.ensures in
    let o = loop_of st c.slot_of_face-face.result c.loop_at-corner.result c.self.invariant.whole.cycles.cycles
    c.self.invariant.whole.records.linked m in
    λ e p. (let P = λ (k : ℕ). IsLive st.edges.cells k in subst P (same_Some o.edge e (sym o.of_edge ∙ p)) o.live)

pub overflow_sub-self : goal.overflow_sub-self
overflow_sub-self c =
    let P = λ (x : Complex). c.args.i < length (corners_of (at x.faces c.args.f.0)) in
    let within = subst P (sym (ap now c.self.view_is)) c.requires.within in
    let count = loops_of_name c.self.inside.store c.self.inside.next c.self.invariant.whole c.args.f.0
    c.slot_of_face-face.result c.slot_of_face-face.ensures in
    let many = length-map (round_of c.self.inside.store c.slot_of_face-face.result.0) (λ (r : Round). r.0) in
    let all = corners_there c.self.inside.store c.self.inside.next c.args.f.0 c.slot_of_face-face.result
    c.self.invariant.whole c.slot_of_face-face.ensures in
    omega arith

pub invariant_of-self : goal.invariant_of-self
invariant_of-self c =
    let P = λ (x : Complex). 2 ≤ length (corners_of (at x.faces c.args.f.0)) in
    let more = subst P (sym (ap now c.self.view_is)) c.requires.more in
    let count = loops_of_name c.self.inside.store c.self.inside.next c.self.invariant.whole c.args.f.0
    c.slot_of_face-face.result c.slot_of_face-face.ensures in
    let lists : NameLists = record { materials = c.self.inside.materials; libraries = c.self.inside.libraries } in
    let lost = takes_corner c.self.inside.store c.take_loop.new.st c.self.inside.next c.self.invariant.whole c.args.f
    c.slot_of_face-face.result c.slot_of_face-face.ensures c.loop_at-corner.result c.args.i c.loop_at-corner.ensures
    c.take_loop.ensures in
    mesh_kept none_of_all c.self.invariant
    (keeps_corner c.self.inside.store c.take_loop.new.st c.self.inside.next c.self.invariant.whole c.args.f
    c.slot_of_face-face.result c.slot_of_face-face.ensures c.loop_at-corner.result c.args.i c.loop_at-corner.ensures
    c.take_loop.ensures (omega arith))
    (keeps_without_loop c.self.inside.store c.take_loop.new.st c.slot_of_face-face.result c.loop_at-corner.result
    c.take_loop.ensures)
    (ap (λ (x : Complex). x.layers) (lost.read lists))

pub returns-clause-now : goal.returns-clause-now
returns-clause-now c =
    let lists : NameLists = record { materials = c.self.inside.materials; libraries = c.self.inside.libraries } in
    (takes_corner c.self.inside.store c.take_loop.new.st c.self.inside.next c.self.invariant.whole c.args.f
    c.slot_of_face-face.result c.slot_of_face-face.ensures c.loop_at-corner.result c.args.i c.loop_at-corner.ensures
    c.take_loop.ensures).read lists
    ∙ ap (λ (x : Complex). without_corner x c.args.f c.args.i) (ap now c.self.view_is)

pub returns-clause-disks : goal.returns-clause-disks
returns-clause-disks c =
    (takes_corner c.self.inside.store c.take_loop.new.st c.self.inside.next c.self.invariant.whole c.args.f
    c.slot_of_face-face.result c.slot_of_face-face.ensures c.loop_at-corner.result c.args.i c.loop_at-corner.ensures
    c.take_loop.ensures).disks
    ∙ ap disks c.self.view_is

pub returns-clause-room : goal.returns-clause-room
returns-clause-room c =
    let lost = takes_corner c.self.inside.store c.take_loop.new.st c.self.inside.next c.self.invariant.whole c.args.f
    c.slot_of_face-face.result c.slot_of_face-face.ensures c.loop_at-corner.result c.args.i c.loop_at-corner.ensures
    c.take_loop.ensures in
    let P = λ (r : Amounts). UsesAtMost none_of_all r (room_in c.take_loop.new.st c.self.inside.next) in
    subst P (ap room c.self.view_is) lost.room

pub take_loop-requires-clause-edge : goal.take_loop-requires-clause-edge
take_loop-requires-clause-edge c =
    let st = c.self.inside.store in
    let m = placed st c.slot_of_face-face.result c.loop_at-corner.result c.args.i c.loop_at-corner.ensures in
    let o = loop_of st c.slot_of_face-face.result c.loop_at-corner.result c.self.invariant.whole.cycles.cycles
    c.self.invariant.whole.records.linked m in
    ap (λ (x : Option ℕ). is_some x) o.of_edge

pub take_loop-requires-clause-member : goal.take_loop-requires-clause-member
take_loop-requires-clause-member c = placed c.self.inside.store c.slot_of_face-face.result c.loop_at-corner.result
    c.args.i c.loop_at-corner.ensures

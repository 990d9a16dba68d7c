use Rattle.std.proofs.Common.{◌≡◌, ◌<◌, length, sym, ap, ◌∙◌, subst, arith}
use Rattle.cust_data.specs.Layers.{LayerTable, with_row}
use Rattle.mesh_store.specs.Stored.{Stored}
use Rattle.mesh_store.specs.declared.layers.Part.TheVariants.{Loop}
use Rattle.mesh_model.specs.Table.{at}
use Rattle.mesh_model.specs.Complex.{Complex, corners_of, width}
use Rattle.mesh_model.specs.Kernel.{with_corner_vals}
use Rattle.mesh_model.specs.declared.names.Kind.TheVariants.{Corners}
use Rattle.mesh_records.specs.ReadOff.{NameLists}
use Rattle.mesh_core.specs.Seen.{Seen, now, disks}
use Rattle.mesh_records.proofs.Elements.{name_live, loop_live}
use Rattle.mesh_records.proofs.Examples.{face_of_name}
use Rattle.mesh_records.proofs.Kills.{loops_of_name}
use Rattle.mesh_records.proofs.ReadBack.{loop_there}
use Rattle.mesh_records.specs.Rewrites.{Rewrites}
use Rattle.mesh_records.proofs.RowsWritten.{writes_corner}
use Rattle.mesh_records.specs.Room.{none_of_all}
use Rattle.mesh_records.proofs.Places.{keeps_valued}
use Rattle.mesh_core.proofs.Kept.{mesh_kept, places_seen}
use Rattle.mesh_core.proofs.mesh.Mesh.set_corner_vals.Goals as goal

pub slot_of_face-face-requires : goal.slot_of_face-face-requires
slot_of_face-face-requires c = face_of_name c.self.inside.store c.self.inside.next _ (now c.args.self.now) c.args.f.0
    (ap now c.self.view_is) c.requires.there

pub loop_at-corner-requires-clause-live : goal.loop_at-corner-requires-clause-live
loop_at-corner-requires-clause-live c = name_live c.self.invariant.whole.records.named.faces c.args.f.0
    c.slot_of_face-face.result c.slot_of_face-face.ensures

pub loop_at-corner-requires-clause-within : goal.loop_at-corner-requires-clause-within
loop_at-corner-requires-clause-within c =
    let P = λ (x : Complex). c.args.i < length (corners_of (at x.faces c.args.f.0)) in
    let within = subst P (sym (ap now c.self.view_is)) c.requires.within in
    let count = loops_of_name c.self.inside.store c.self.inside.next c.self.invariant.whole c.args.f.0
    c.slot_of_face-face.result c.slot_of_face-face.ensures in
    omega arith

pub set_row-requires-clause-live : goal.set_row-requires-clause-live
set_row-requires-clause-live c = loop_live c.self.inside.store c.loop_at-corner.result.0
    (loop_there c.self.inside.store c.self.invariant.whole.cycles.cycles c.slot_of_face-face.result.0 c.args.i
    c.loop_at-corner.result c.loop_at-corner.ensures)

pub set_row-requires-clause-wide : goal.set_row-requires-clause-wide
set_row-requires-clause-wide c = let P =
    λ (x : Complex). length c.args.vals.now ≡ width x Corners in subst P (sym (ap now c.self.view_is)) c.requires.wide

written : (c : goal.After-set_row) → Rewrites c.self.inside.store c.set_row.new.self c.self.inside.next
    (λ (x : Complex). with_corner_vals x c.args.f c.args.i c.args.vals.now)
written c =
    let P = λ (x : Complex). length c.args.vals.now ≡ width x Corners in
    let R = λ (t : Stored). Rewrites c.self.inside.store t c.self.inside.next
    (λ (x : Complex). with_corner_vals x c.args.f c.args.i c.args.vals.now) in
    let live = loop_live c.self.inside.store c.loop_at-corner.result.0
    (loop_there c.self.inside.store c.self.invariant.whole.cycles.cycles c.slot_of_face-face.result.0 c.args.i
    c.loop_at-corner.result c.loop_at-corner.ensures) in
    subst R (sym c.set_row.ensures) (writes_corner c.self.inside.store c.self.inside.next c.self.invariant.whole
    c.args.vals.now c.args.f c.slot_of_face-face.result c.slot_of_face-face.ensures c.args.i c.loop_at-corner.result
    c.loop_at-corner.ensures live (subst P (sym (ap now c.self.view_is)) c.requires.wide))

pub invariant_of-self : goal.invariant_of-self
invariant_of-self c =
    let lists : NameLists = record { materials = c.self.inside.materials; libraries = c.self.inside.libraries } in
    mesh_kept none_of_all c.self.invariant (written c).whole
    (keeps_valued c.self.inside.store c.set_row.new.self Loop (λ (t : LayerTable). with_row t c.loop_at-corner.result.0 c.args.vals.now)
    c.set_row.ensures)
    (ap (λ (x : Complex). x.layers) ((written c).read lists))

pub returns-clause-now : goal.returns-clause-now
returns-clause-now c =
    let lists : NameLists = record { materials = c.self.inside.materials; libraries = c.self.inside.libraries } in
    (written c).read lists
    ∙ ap (λ (x : Complex). with_corner_vals x c.args.f c.args.i c.args.vals.now) (ap now c.self.view_is)

pub returns-clause-disks : goal.returns-clause-disks
returns-clause-disks c = (written c).disks ∙ ap disks c.self.view_is

pub returns-clause-places : goal.returns-clause-places
returns-clause-places c = places_seen none_of_all c.args.self.now
    (ap (λ (m : Seen). m.stored) c.self.view_is)
    (keeps_valued c.self.inside.store c.set_row.new.self Loop (λ (t : LayerTable). with_row t c.loop_at-corner.result.0 c.args.vals.now)
    c.set_row.ensures)

use Rattle.std.proofs.Common.{ap, ◌∙◌, subst}
use Rattle.mesh_model.specs.Complex.{Complex}
use Rattle.mesh_model.specs.Kernel.{with_point}
use Rattle.mesh_records.specs.ReadOff.{NameLists, point_of}
use Rattle.mesh_core.specs.Seen.{now, disks, room}
use Rattle.mesh_records.proofs.Elements.{name_live}
use Rattle.mesh_records.proofs.Examples.{vert_of_name}
use Rattle.mesh_records.proofs.Moved.{moves_vert}
use Rattle.mesh_records.specs.Room.{Amounts, UsesAtMost, none_of_all, room_in}
use Rattle.mesh_records.specs.Rewrites.{Rewrites}
use Rattle.mesh_records.proofs.Places.{keeps_changed_vert}
use Rattle.mesh_core.proofs.Kept.{mesh_kept}
use Rattle.mesh_core.proofs.mesh.Mesh.set_point.Goals as goal

pub slot_of_vert-vert-requires : goal.slot_of_vert-vert-requires
slot_of_vert-vert-requires c = vert_of_name c.self.inside.store c.self.inside.next _ (now c.args.self.now) c.args.v.0
    (ap now c.self.view_is) c.requires

pub set_point-requires : goal.set_point-requires
set_point-requires c = name_live c.self.invariant.whole.records.named.verts c.args.v.0 c.slot_of_vert-vert.result
    c.slot_of_vert-vert.ensures

moved : (c : goal.After-set_point) → Rewrites c.self.inside.store c.set_point.new.self c.self.inside.next
    (λ (x : Complex). with_point x c.args.v (point_of c.coordinates.result))
moved c = moves_vert c.self.inside.store c.self.inside.next c.self.invariant.whole c.args.v c.slot_of_vert-vert.result
    c.slot_of_vert-vert.ensures c.coordinates.result c.set_point.new.self c.set_point.ensures

pub invariant_of-self : goal.invariant_of-self
invariant_of-self c =
    let lists : NameLists = record { materials = c.self.inside.materials; libraries = c.self.inside.libraries } in
    mesh_kept none_of_all c.self.invariant (moved c).whole
    (keeps_changed_vert c.self.inside.store c.set_point.new.self _ _ c.set_point.ensures)
    (ap (λ (x : Complex). x.layers) ((moved c).read lists))

pub returns-clause-now : goal.returns-clause-now
returns-clause-now c =
    let lists : NameLists = record { materials = c.self.inside.materials; libraries = c.self.inside.libraries } in
    let before = ap now c.self.view_is in
    let point = ap point_of c.coordinates.ensures in
    (moved c).read lists ∙ (λ i. with_point (before i) c.args.v (point i))

pub returns-clause-disks : goal.returns-clause-disks
returns-clause-disks c = (moved c).disks ∙ ap disks c.self.view_is

pub returns-clause-room : goal.returns-clause-room
returns-clause-room c = let P = λ (r : Amounts). UsesAtMost none_of_all r (room_in c.set_point.new.self c.self.inside.next)
    in subst P (ap room c.self.view_is) (moved c).room

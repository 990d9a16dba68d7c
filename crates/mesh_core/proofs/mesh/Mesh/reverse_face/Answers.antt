use Rattle.std.proofs.Common.{ap, ◌∙◌, subst}
use Rattle.mesh_model.specs.Complex.{Complex}
use Rattle.mesh_model.specs.Kernel.{reversed_face}
use Rattle.mesh_records.specs.ReadOff.{NameLists}
use Rattle.mesh_records.specs.Room.{Amounts, UsesAtMost, none_of_all, room_in}
use Rattle.mesh_core.specs.Seen.{now, disks, room}
use Rattle.mesh_records.proofs.Examples.{face_of_name}
use Rattle.mesh_core.proofs.Kept.{mesh_kept}
use Rattle.mesh_core.proofs.mesh.Mesh.reverse_face.Goals as goal

pub reverse_face-requires-clause-there : goal.reverse_face-requires-clause-there
reverse_face-requires-clause-there c = face_of_name c.self.inside.store c.self.inside.next _ (now c.args.self.now)
    c.args.f.0 (ap now c.self.view_is) c.requires

pub invariant_of-self : goal.invariant_of-self
invariant_of-self c =
    let lists : NameLists = record { materials = c.self.inside.materials; libraries = c.self.inside.libraries } in
    mesh_kept none_of_all c.self.invariant c.reverse_face.ensures.rewrites.whole c.reverse_face.ensures.places
    (ap (λ (x : Complex). x.layers) (c.reverse_face.ensures.rewrites.read lists))

pub returns-clause-now : goal.returns-clause-now
returns-clause-now c =
    let lists : NameLists = record { materials = c.self.inside.materials; libraries = c.self.inside.libraries } in
    c.reverse_face.ensures.rewrites.read lists ∙ ap (λ (x : Complex). reversed_face x c.args.f) (ap now c.self.view_is)

pub returns-clause-disks : goal.returns-clause-disks
returns-clause-disks c = c.reverse_face.ensures.rewrites.disks ∙ ap disks c.self.view_is

pub returns-clause-room : goal.returns-clause-room
returns-clause-room c =
    let P = λ (r : Amounts). UsesAtMost none_of_all r (room_in c.reverse_face.new.st c.self.inside.next) in
    subst P (ap room c.self.view_is) c.reverse_face.ensures.rewrites.room

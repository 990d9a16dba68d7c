use Rattle.std.proofs.Common.{ap, ◌∙◌}
use Rattle.mesh_core.specs.Seen.{Seen}
use Rattle.mesh_core.specs.Seen.{now, disks}
use Rattle.mesh_records.specs.Room.{none_of_all}
use Rattle.mesh_core.proofs.Kept.{mesh_kept}
use Rattle.mesh_core.proofs.mesh.Mesh.reserve.Goals as goal

pub invariant_of-self : goal.invariant_of-self
invariant_of-self c = mesh_kept none_of_all c.self.invariant c.make_room.ensures.stays.whole
    c.make_room.ensures.places c.make_room.ensures.stays.same.layers

pub returns-clause-stays : goal.returns-clause-stays
returns-clause-stays c = record {
  now = c.make_room.ensures.stays.read _ ∙ ap now c.self.view_is;
  base = ap (λ (m : Seen). m.base) c.self.view_is;
  disks = c.make_room.ensures.stays.disks ∙ ap disks c.self.view_is;
}

use Rattle.std.proofs.Common.{◌≡◌}
use Rattle.mesh_model.specs.Table.{live}
use Rattle.mesh_core.specs.Seen.{now, disks}
use Rattle.mesh_core.specs.Seen.{room}
use Rattle.mesh_records.specs.Room.{UsesAtMost, none_of_all}
use Rattle.mesh_model.specs.Incidence.{uses_edge}
use Rattle.mesh_records.specs.Gone.{SomeGone}
use Rattle.mesh_core.proofs.mesh.Mesh.remove_faces_along.Given as goal

abbrev pub invariant-loop-f : goal.invariant-loop-f
invariant-loop-f l = record {
  rest : now l.self ≡ record (now l.initial.self) { faces = (now l.self).faces };
  faces : SomeGone (uses_edge l.e) (now l.initial.self).faces (now l.self).faces;
  disks : disks l.self ≡ disks l.initial.self;
  base : l.self.base ≡ l.initial.self.base;
  room : UsesAtMost none_of_all (room l.initial.self) (room l.self);
  notes : l.self.notes ≡ l.initial.self.notes;
}

abbrev pub decreases-loop-f : goal.decreases-loop-f
decreases-loop-f l = live (now l.self).faces

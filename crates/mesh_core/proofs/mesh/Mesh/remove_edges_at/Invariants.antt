use Rattle.std.proofs.Common.{◌≡◌}
use Rattle.mesh_model.specs.Table.{live}
use Rattle.mesh_core.specs.Seen.{now, disks}
use Rattle.mesh_core.specs.Seen.{room}
use Rattle.mesh_records.specs.Room.{UsesAtMost, none_of_all}
use Rattle.mesh_records.specs.Gone.{EdgesGone, without_gone}
use Rattle.mesh_core.proofs.mesh.Mesh.remove_edges_at.Given as goal

abbrev pub invariant-loop-e : goal.invariant-loop-e
invariant-loop-e l = record {
  gone : EdgesGone l.v (now l.initial.self) (now l.self);
  disks : disks l.self ≡ without_gone l.v (now l.initial.self) (now l.self) (disks l.initial.self);
  base : l.self.base ≡ l.initial.self.base;
  room : UsesAtMost none_of_all (room l.initial.self) (room l.self);
  notes : l.self.notes ≡ l.initial.self.notes;
}

abbrev pub decreases-loop-e : goal.decreases-loop-e
decreases-loop-e l = live (now l.self).edges

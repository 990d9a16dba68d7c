use Rattle.std.proofs.Common.{◌≡◌, take}
use Rattle.mesh_core.specs.Seen.{now}
use Rattle.mesh_copies.specs.CopyingSteps.{vert_after, edge_after, with_face_copies}
use Rattle.mesh_copies.proofs.faces.copy_faces.Given as goal

abbrev pub invariant-loop-f : goal.invariant-loop-f
invariant-loop-f l = record {
  now : now l.mesh
      ≡ with_face_copies (vert_after l.next l.set) (edge_after l.next l.set) (now l.fn.mesh) (take l.f-index l.faces);
  base : l.mesh.base ≡ l.fn.mesh.base;
}

use Rattle.std.proofs.Common.{◌≡◌, take}
use Rattle.mesh_core.specs.Seen.{now}
use Rattle.mesh_copies.specs.CopyingSteps.{vert_after, with_edge_copies}
use Rattle.mesh_copies.proofs.copying.copy_edges.Given as goal

abbrev pub invariant-loop-e : goal.invariant-loop-e
invariant-loop-e l = record {
  now : now l.mesh ≡ with_edge_copies (vert_after l.next l.set) (now l.fn.mesh) (take l.e-index l.edges);
  base : l.mesh.base ≡ l.fn.mesh.base;
}

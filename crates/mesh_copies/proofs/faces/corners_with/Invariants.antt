use Rattle.std.proofs.Common.{◌≡◌, map, take}
use Rattle.mesh_model.specs.Table.{at}
use Rattle.mesh_model.specs.Complex.{corners_of}
use Rattle.mesh_core.specs.Seen.{now}
use Rattle.mesh_copies.specs.Copying.{copied_corner}
use Rattle.mesh_copies.specs.CopyingSteps.{vert_after, edge_after}
use Rattle.mesh_copies.proofs.faces.corners_with.Given as goal

abbrev pub invariant-loop-i : goal.invariant-loop-i
invariant-loop-i l = l.corners.items
    ≡ map (copied_corner (vert_after l.next l.set) (edge_after l.next l.set))
    (take l.i (corners_of (at (now l.mesh).faces l.fn.f.0)))

use Rattle.std.proofs.Common.{◌≡◌, take}
use Rattle.mesh_core.specs.Seen.{now}
use Rattle.mesh_copies.specs.CopyingSteps.{corners_in}
use Rattle.op_copies.proofs.counting.corners_in.Given as goal

abbrev pub invariant-loop-f : goal.invariant-loop-f
invariant-loop-f l = l.count ≡ corners_in (now l.mesh) (take l.f-index l.faces)

use Rattle.std.proofs.Common.{◌≡◌, take}
use Rattle.mesh_model.specs.Incidence.{sides}
use Rattle.mesh_core.specs.Seen.{now}
use Rattle.op_basic.specs.Searching.{missing}
use Rattle.op_basic.proofs.siding.count_missing.Given as goal

abbrev pub invariant-loop-i : goal.invariant-loop-i
invariant-loop-i l = l.count ≡ missing (now l.mesh) (take l.i (sides l.verts))

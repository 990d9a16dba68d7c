use Rattle.std.proofs.Common.{◌≡◌, drop}
use Rattle.mesh_core.specs.Seen.{now}
use Rattle.mesh_passes.specs.Moving.{first_leaving}
use Rattle.mesh_passes.proofs.moving.first_leaving.Given as goal

abbrev pub invariant-loop-v : goal.invariant-loop-v
invariant-loop-v g l = first_leaving (g.M.Motion.to l.motion) (now l.mesh) (drop l.v-index l.verts)
    ≡ first_leaving (g.M.Motion.to l.motion) (now l.mesh) l.verts

use Rattle.std.proofs.Common.{◌≡◌, take}
use Rattle.mesh_core.specs.Seen.{now}
use Rattle.mesh_passes.specs.Closing.{verts_reached}
use Rattle.mesh_passes.proofs.closing.verts_reached.Given as goal

abbrev pub invariant-loop-e : goal.invariant-loop-e
invariant-loop-e l = l.numbers.items ≡ verts_reached (now l.mesh) l.verts (take l.e-index l.edges)

use Rattle.std.proofs.Common.{◌≡◌, take}
use Rattle.mesh_core.specs.Seen.{now}
use Rattle.mesh_passes.specs.Closing.{edges_reached}
use Rattle.mesh_passes.proofs.closing.edges_reached.Given as goal

abbrev pub invariant-loop-f : goal.invariant-loop-f
invariant-loop-f l = l.numbers.items ≡ edges_reached (now l.mesh) l.edges (take l.f-index l.faces)

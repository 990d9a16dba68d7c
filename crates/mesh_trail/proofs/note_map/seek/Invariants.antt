use Rattle.std.proofs.Common.{◌-◌, length}
use Rattle.mesh_trail.specs.Tree.{IsOnPath}
use Rattle.mesh_trail.proofs.note_map.seek.Given as goal

abbrev pub invariant-loop-e : goal.invariant-loop-e
invariant-loop-e g l = IsOnPath l.entries l.name l.at l.bits

abbrev pub decreases-loop-e : goal.decreases-loop-e
decreases-loop-e g l = length l.entries - l.at

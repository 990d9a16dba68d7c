use Rattle.std.proofs.Common.{◌≡◌, take}
use Rattle.mesh_model.specs.Complex.{corner_sum}
use Rattle.mesh_former.proofs.former.Former.corner_total.Given as goal

-- the corners of the faces before are counted
abbrev pub invariant-loop-f : goal.invariant-loop-f
invariant-loop-f g l = l.corners ≡ corner_sum (take l.f l.self.faces)

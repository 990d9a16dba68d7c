use Rattle.std.proofs.Common.{◌≡◌, map, take}
use Rattle.mesh_model.specs.Table.{at}
use Rattle.mesh_model.specs.Complex.{corners_of}
use Rattle.mesh_model.proofs.draft_shape.DraftShape.corners.Given as goal

abbrev pub invariant-loop-i : goal.invariant-loop-i
invariant-loop-i l = take l.i l.into ≡ map (λ k. (k.vert, k.edge)) (take l.i (corners_of (at l.self.faces l.f.0)))

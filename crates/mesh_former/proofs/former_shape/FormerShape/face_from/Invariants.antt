use Rattle.std.proofs.Common.{◌≡◌, ℕ, ◌<◌, ◌≤◌, false, is_some}
use Rattle.mesh_model.specs.Table.{at}
use Rattle.mesh_former.proofs.former_shape.FormerShape.face_from.Given as goal

-- nothing stands from the number on, as far as the loop has come
abbrev pub invariant-loop-n : goal.invariant-loop-n
invariant-loop-n g l = (n : ℕ) → l.least ≤ n → n < l.n → is_some (at l.self.faces n) ≡ false

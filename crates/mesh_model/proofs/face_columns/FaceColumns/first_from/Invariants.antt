use Rattle.std.proofs.Common.{◌≡◌, ℕ, ◌<◌, ◌≤◌, false, is_some}
use Rattle.mesh_model.specs.Table.{at}
use Rattle.mesh_model.proofs.face_columns.FaceColumns.first_from.Given as goal

-- nothing stands from the number on, as far as the loop has come
abbrev pub invariant-loop-name : goal.invariant-loop-name
invariant-loop-name l = (n : ℕ) → l.least ≤ n → n < l.name → is_some (at l.self.table n) ≡ false

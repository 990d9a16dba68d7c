use Rattle.std.proofs.Common.{◌≡◌, ◌*◌, ℕ, length, sym, ap, ◌∙◌, arith}
use Rattle.std.specs.Vec.{vec_len}
use Rattle.mesh_trail.proofs.Wide.{corners_wide}
use Rattle.mesh_trail.proofs.corners.CornerStore.rows_fit.Goals as goal

pub returns : goal.returns
returns c =
    let s = c.self.inside in
    let long : length s.values.items ≡ length s.pairs.items * s.width =
    (let rows = c.self.invariant.rows in let one : vec_len s.pairs ≡ length s.pairs.items =
    omega arith in let two : vec_len s.values ≡ length s.values.items =
    omega arith in sym two ∙ rows ∙ ap (λ (n : ℕ). n * s.width) one) in
    rw (← c.self.view_is) (corners_wide s.width s.pairs.items s.values.items long)

-- The corners of the faces up to a name.
use Rattle.std.proofs.Common.{◌≡◌, ◌≤◌, ◌<◌, ◌+◌, ℕ, List, length, take, drop, sym, ap, ◌∙◌, arith, Option, None}
use Rattle.std.proofs.lemmas.List.{take_all, take-append-drop}
use Rattle.std.proofs.lemmas.List.Sums.{sum_by_more}
use Rattle.mesh_model.specs.Table.{at}
use Rattle.mesh_model.specs.Complex.{corners_of, corner_sum}
use Rattle.mesh_model.specs.declared.records.FaceRec.{FaceRec}
use Rattle.mesh_model.proofs.CornerSums.{corner_sum-append}

pub sum_more : (faces : List (Option FaceRec)) (f : ℕ) → f < length faces
    → corner_sum (take (f + 1) faces) ≡ corner_sum (take f faces) + length (corners_of (at faces f))
sum_more faces f less = sum_by_more (λ (o : Option FaceRec). length (corners_of o)) faces f None less

pub sum_within : (faces : List (Option FaceRec)) (f : ℕ) → corner_sum (take f faces) ≤ corner_sum faces
sum_within faces f =
    let parts = corner_sum-append (take f faces) (drop f faces) in
    let whole : corner_sum (take f faces) + corner_sum (drop f faces) ≡ corner_sum faces =
    sym parts ∙ ap corner_sum (take-append-drop f faces) in
    omega arith

pub sum_whole : (faces : List (Option FaceRec)) (f : ℕ) → length faces ≤ f
    → corner_sum (take f faces) ≡ corner_sum faces
sum_whole faces f over = ap corner_sum (take_all f faces over)

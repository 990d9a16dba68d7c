-- The number of live corners after a change of the table of faces.
use Rattle.std.proofs.Common.{◌≡◌, ℕ, ◌+◌, ◌<◌, List, [], ◌∷◌, ◌++◌, length, ◌∙◌, arith, Option, Some, None}
use Rattle.std.specs.Prelude.{slice_set}
use Rattle.std.proofs.lemmas.List.Sums.{sum_by-append, sum_by-set}
use Rattle.mesh_model.specs.Table.{at, update}
use Rattle.mesh_model.specs.Complex.{corners_of, corner_sum}
use Rattle.mesh_model.specs.declared.records.FaceRec.{FaceRec}
use Rattle.mesh_model.proofs.Tables.{at-below}

pub corner_sum-append : (faces more : List (Option FaceRec))
    → corner_sum (faces ++ more) ≡ corner_sum faces + corner_sum more
corner_sum-append faces more = sum_by-append (λ (o : Option FaceRec). length (corners_of o)) faces more

pub corner_sum-push : (faces : List (Option FaceRec)) (f : FaceRec)
    → corner_sum (faces ++ Some f ∷ []) ≡ corner_sum faces + length f.corners
corner_sum-push faces f = corner_sum-append faces (Some f ∷ []) ∙ omega arith

pub corner_sum-set : (faces : List (Option FaceRec)) (n : ℕ) (o : Option FaceRec) → n < length faces
    → corner_sum (slice_set faces n o) + length (corners_of (at faces n)) ≡ corner_sum faces + length (corners_of o)
corner_sum-set faces n o less = sum_by-set (λ (x : Option FaceRec). length (corners_of x)) faces n o None less

-- a face's record changed
pub corner_sum-update : (faces : List (Option FaceRec)) (n : ℕ) (change : FaceRec → FaceRec) (f : FaceRec)
    → at faces n ≡ Some f
    → corner_sum (update faces n change) + length f.corners ≡ corner_sum faces + length (change f).corners
corner_sum-update faces n change f is =
    rw is (let sum = corner_sum-set faces n (Some (change f)) (at-below faces n f is) in
    let old : length (corners_of (at faces n)) ≡ length f.corners = rw is in omega arith)

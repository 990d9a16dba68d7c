-- Faces turned over, one after another, as one change.
use Rattle.std.proofs.Common.{◌≡◌, ℕ, ◌+◌, ◌<◌, Bool, true, false, eqb, List, [], ◌∷◌, length, take, get_or, refl, sym, ap}
use Rattle.std.proofs.Common.{◌∙◌, Option, is_some}
use Rattle.std.proofs.lemmas.List.Folds.{list_any_more}
use Rattle.std.proofs.lemmas.Bool.{cond-false}
use Rattle.mesh_model.specs.Table.{at, IsThere}
use Rattle.mesh_model.specs.Complex.{Complex}
use Rattle.mesh_model.specs.Closure.{is_face_among}
use Rattle.mesh_model.specs.Naming.{is_rising, face_numbers}
use Rattle.mesh_model.specs.Kernel.{reversed, reversed_face}
use Rattle.mesh_model.specs.declared.names.FaceName.{FaceName}
use Rattle.mesh_model.specs.declared.records.FaceRec.{FaceRec}
use Rattle.mesh_model.proofs.Tables.{at-changed_names, changed_names-none, update-changed_names}
use Rattle.mesh_passes.specs.Turning.{turned_over}
use Rattle.mesh_passes.proofs.Rising.{not_before}

abbrev is_named : List FaceName → ℕ → Bool
is_named fs n = is_face_among fs (record { 0 = n })

abbrev turn : FaceRec → FaceRec
turn r = record r { corners = reversed r.corners }

pub turned_none : (c : Complex) → turned_over c [] ≡ c
unfolding turned_over
turned_none c = ap (λ (t : List (Option FaceRec)). record c { faces = t })
    (changed_names-none (is_named []) turn c.faces (λ n. refl))

pub turned_more : (c : Complex) (fs : List FaceName) (i : ℕ) (d : FaceName) → is_rising (face_numbers fs) ≡ true
    → i < length fs → reversed_face (turned_over c (take i fs)) (get_or fs i d) ≡ turned_over c (take (i + 1) fs)
unfolding turned_over
turned_more c fs i d rising less = ap (λ (t : List (Option FaceRec)). record c { faces = t })
    (update-changed_names (is_named (take i fs)) (is_named (take (i + 1) fs)) (get_or fs i d).0 turn turn c.faces
    (λ n. list_any_more (λ (f : FaceName). eqb f.0 n) fs i d less)
    (not_before (λ (f : FaceName). f.0) fs i d rising less) refl)

pub turned_live : (c : Complex) (fs : List FaceName) (i : ℕ) (d : FaceName) → is_rising (face_numbers fs) ≡ true
    → i < length fs → IsThere c.faces (get_or fs i d).0
    → IsThere (turned_over c (take i fs)).faces (get_or fs i d).0
unfolding turned_over
turned_live c fs i d rising less there =
    ap is_some (at-changed_names (is_named (take i fs)) turn c.faces (get_or fs i d).0
    ∙ cond-false (is_named (take i fs) (get_or fs i d).0) _ _ (not_before (λ (f : FaceName). f.0) fs i d rising less))
    ∙ there

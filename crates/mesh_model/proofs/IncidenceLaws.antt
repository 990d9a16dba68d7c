-- An edge is loose where no corner is along it, and a vertex is bare where it has no edge.
use Rattle.std.proofs.Common.{◌≡◌, ◌↔◌, ℕ, ◌+◌, Bool, true, false, cond, ◌||◌, List, [], ◌∷◌, ◌++◌, map, filter, refl}
use Rattle.std.proofs.Common.{sym, ap, ◌∙◌, Option, Some, None}
use Rattle.std.specs.List.{list_any, flat_map, enumerate_from}
use Rattle.std.proofs.lemmas.Bool.{not-true, not_from_false, or_parts, or_from}
use Rattle.mesh_model.specs.Table.{passes}
use Rattle.mesh_model.specs.Complex.{Complex, corners_of}
use Rattle.mesh_model.specs.Incidence.{has_end, is_along, uses_edge, edges_at, corners_in, corners_at_edge, is_loose}
use Rattle.mesh_model.specs.Incidence.{is_bare}
use Rattle.mesh_model.specs.declared.names.VertName.{VertName}
use Rattle.mesh_model.specs.declared.names.EdgeName.{EdgeName}
use Rattle.mesh_model.specs.declared.names.FaceName.{FaceName}
use Rattle.mesh_model.specs.declared.records.EdgeRec.{EdgeRec}
use Rattle.mesh_model.specs.declared.records.CornerRec.{CornerRec}
use Rattle.mesh_model.specs.declared.records.FaceRec.{FaceRec}

map_nil : {X Y : Type 0} (f : X → Y) (xs : List X) → map f xs ≡ [] → xs ≡ []
map_nil f [] h = refl
map_nil f (x ∷ xs) h = absurd (cc)

append_nil : {X : Type 0} (xs ys : List X) → xs ++ ys ≡ [] → (xs ≡ []) × (ys ≡ [])
append_nil [] ys h = (refl, h)
append_nil (x ∷ xs) ys h = absurd (cc)

-- a filter keeps nothing where no element passes
nothing_kept : {X : Type 0} (p : X → Bool) (xs : List X) → list_any p xs ≡ false → filter p xs ≡ []
nothing_kept p [] h = refl
nothing_kept p (x ∷ xs) h = let both = or_parts (p x) (list_any p xs) h in rw (both.0, nothing_kept p xs both.1) refl

none_passes : {X : Type 0} (p : X → Bool) (xs : List X) → filter p xs ≡ [] → list_any p xs ≡ false
none_passes p [] h = refl
none_passes {X = X} p (x ∷ xs) h = first (p x) h (none_passes p xs)
  where
    first : (b : Bool) → cond b (x ∷ filter p xs) (filter p xs) ≡ [] → (filter p xs ≡ [] → list_any p xs ≡ false)
        → (b || list_any p xs) ≡ false
    first true e rest = absurd (cc)
    first false e rest = rest e

-- a test of the elements alone doesn't see their numbers
any_numbered : {X : Type 0} (q : X → Bool) (m : ℕ) (xs : List X)
    → list_any (λ (e : ℕ × X). q e.1) (enumerate_from m xs) ≡ list_any q xs
any_numbered q m [] = refl
any_numbered q m (x ∷ xs) = ap (λ (b : Bool). q x || b) (any_numbered q (m + 1) xs)

pub is_bare-edges_at : (c : Complex) (v : VertName) → (is_bare c v ≡ true) ↔ (edges_at c v ≡ [])
is_bare-edges_at c v =
    let test : ℕ × Option EdgeRec → Bool = λ e. passes (has_end v) e.1 in
    let same = any_numbered (passes (has_end v)) 0 c.edges in (
      λ h. ap (map (λ (e : ℕ × Option EdgeRec). let n : EdgeName = record { 0 = e.0 } in n))
          (nothing_kept test (enumerate_from 0 c.edges) (same ∙ not-true (list_any (passes (has_end v)) c.edges) h)),
      λ h. not_from_false (list_any (passes (has_end v)) c.edges) (sym same
          ∙ none_passes test (enumerate_from 0 c.edges) (map_nil _ (filter test (enumerate_from 0 c.edges)) h)),
    )

-- a face has no corners that pass where none of them passes
corners_none : (test : CornerRec → Bool) (n : ℕ) (o : Option FaceRec) → list_any test (corners_of o) ≡ false
    → corners_in test (n, o) ≡ []
corners_none test n o h = ap (map (λ (k : ℕ × CornerRec). let f : FaceName = record { 0 = n } in (f, k.0)))
    (nothing_kept (λ (k : ℕ × CornerRec). test k.1) (enumerate_from 0 (corners_of o))
    (any_numbered test 0 (corners_of o) ∙ h))

corners_nil : (test : CornerRec → Bool) (n : ℕ) (o : Option FaceRec) → corners_in test (n, o) ≡ []
    → list_any test (corners_of o) ≡ false
corners_nil test n o h = sym (any_numbered test 0 (corners_of o))
    ∙ none_passes (λ (k : ℕ × CornerRec). test k.1) (enumerate_from 0 (corners_of o))
    (map_nil _ (filter (λ (k : ℕ × CornerRec). test k.1) (enumerate_from 0 (corners_of o))) h)

no_corners : (test : CornerRec → Bool) (m : ℕ) (faces : List (Option FaceRec))
    → list_any (λ o. list_any test (corners_of o)) faces ≡ false
    → flat_map (corners_in test) (enumerate_from m faces) ≡ []
no_corners test m [] h = refl
no_corners test m (o ∷ os) h =
    let both = or_parts (list_any test (corners_of o)) (list_any (λ o. list_any test (corners_of o)) os) h in
    rw (corners_none test m o both.0, no_corners test (m + 1) os both.1) refl

none_there : (test : CornerRec → Bool) (m : ℕ) (faces : List (Option FaceRec))
    → flat_map (corners_in test) (enumerate_from m faces) ≡ []
    → list_any (λ o. list_any test (corners_of o)) faces ≡ false
none_there test m [] h = refl
none_there test m (o ∷ os) h =
    let both = append_nil (corners_in test (m, o)) (flat_map (corners_in test) (enumerate_from (m + 1) os)) h in
    or_from (list_any test (corners_of o)) (list_any (λ o. list_any test (corners_of o)) os)
    (corners_nil test m o both.0) (none_there test (m + 1) os both.1)

uses_by_corners : (e : EdgeName) (faces : List (Option FaceRec))
    → list_any (passes (uses_edge e)) faces ≡ list_any (λ o. list_any (is_along e) (corners_of o)) faces
uses_by_corners e [] = refl
uses_by_corners e (None ∷ os) = uses_by_corners e os
uses_by_corners e (Some f ∷ os) = ap (λ (b : Bool). uses_edge e f || b) (uses_by_corners e os)

pub is_loose-corners_at_edge : (c : Complex) (e : EdgeName) → (is_loose c e ≡ true) ↔ (corners_at_edge c e ≡ [])
is_loose-corners_at_edge c e = (
  λ h. no_corners (is_along e) 0 c.faces (sym (uses_by_corners e c.faces)
      ∙ not-true (list_any (passes (uses_edge e)) c.faces) h),
  λ h. not_from_false (list_any (passes (uses_edge e)) c.faces) (uses_by_corners e c.faces
      ∙ none_there (is_along e) 0 c.faces h),
)

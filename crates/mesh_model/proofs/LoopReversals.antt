-- A face reversed: the complex stays valid and simple, and to reverse twice is to do nothing.
use Rattle.std.proofs.Common.{◌≡◌, ℕ, List, length, refl, sym, ap, ◌∙◌, subst, inl, inr, arith, Option, Some, None}
use Rattle.mesh_model.specs.Table.{at, update}
use Rattle.std.specs.Option.{option_map}
use Rattle.std.proofs.lemmas.Bool.{cases_lt}
use Rattle.mesh_model.specs.Complex.{Complex, corners_of, corner_sum, counters_of}
use Rattle.mesh_model.specs.Valid.{IsValid, IsSimple, IsSound}
use Rattle.mesh_model.specs.Kernel.{reversed}
use Rattle.mesh_model.specs.Euler.{loop_reverse}
use Rattle.mesh_model.specs.declared.names.FaceName.{FaceName}
use Rattle.mesh_model.specs.declared.records.CornerRec.{CornerRec}
use Rattle.mesh_model.specs.declared.records.FaceRec.{FaceRec}
use Rattle.mesh_model.proofs.Tables.{was-updated, length-update, at-below, update-same, update-update}
use Rattle.mesh_model.proofs.CornerSums.{corner_sum-set}
use Rattle.mesh_model.proofs.Grown.{IsPolygon-Extends}
use Rattle.mesh_model.proofs.Reversed.{IsPolygon-reversed, All-reversed, length-reversed, reversed-reversed}
use Rattle.mesh_model.proofs.Right.{AreRight, IsFaceRight, HasSameLayers, HasVals, AreRight-from_valid}
use Rattle.mesh_model.proofs.Right.{IsValid-from_right, IsVertRight-same, IsEdgeRight-same, HasVals-same, face-same}
use Rattle.mesh_model.proofs.Right.{face-with}

abbrev turned_over : FaceRec → FaceRec
turned_over f = record f { corners = reversed f.corners }

-- ---- THE COMPLEX

same_layers : (c : Complex) (f : FaceName) → HasSameLayers (loop_reverse c f) c
same_layers c f = record { layers = refl; materials = refl }

pub AreRight-loop_reverse : (c : Complex) (f : FaceName) → AreRight c → AreRight (loop_reverse c f)
AreRight-loop_reverse c f h = let d = loop_reverse c f in record {
  layers = h.layers;
  verts = λ n r is. IsVertRight-same d c (same_layers c f) r (h.verts n r is);
  edges = λ n e is. let right = h.edges n e is in
      IsEdgeRight-same d c (same_layers c f) e e refl right.linked.a right.linked.b right.linked.differ right;
  faces = λ n x is. elim (was-updated c.faces f.0 n turned_over x is) [
    | inl old ↦ face-same d c (same_layers c f) x
        (IsPolygon-Extends d c (λ m y there. there) x.corners (h.faces n x old).polygon) (h.faces n x old)
    | inr new ↦ let y = new.1.0 in let right = h.faces n y new.1.1 in subst (IsFaceRight d) (sym new.1.2)
        (face-with d c (same_layers c f) y (reversed y.corners)
        (IsPolygon-Extends d c (λ m z there. there) (reversed y.corners)
        (IsPolygon-reversed c y.corners right.polygon))
        (HasVals-same d c (same_layers c f) (reversed y.corners)
        (All-reversed (HasVals c) y.corners (λ i j e less_i less_j. right.corners i e less_i))) right)
  ];
}

-- as many corners as before
pub corner_sum-loop_reverse : (c : Complex) (f : FaceName) → corner_sum (loop_reverse c f).faces ≡ corner_sum c.faces
corner_sum-loop_reverse c f = same_sum c.faces f.0
  where
    of_face : (o : Option FaceRec) → length (corners_of (option_map turned_over o)) ≡ length (corners_of o)
    of_face None = refl
    of_face (Some x) = length-reversed x.corners

    same_sum : (faces : List (Option FaceRec)) (n : ℕ) → corner_sum (update faces n turned_over) ≡ corner_sum faces
    same_sum faces n = elim (cases_lt n (length faces)) [
      | inl less ↦ omega (
        arith,
        corner_sum-set faces n (option_map turned_over (at faces n)) less,
        of_face (at faces n),
      )
      | inr past ↦ ap corner_sum
          (update-same faces n turned_over (λ x is. absurd (let below = at-below faces n x is in omega arith)))
    ]

pub counters-loop_reverse : (c : Complex) (f : FaceName) → counters_of (loop_reverse c f) ≡ counters_of c
counters-loop_reverse c f = rw (length-update c.faces f.0 turned_over, corner_sum-loop_reverse c f) refl

pub IsValid-loop_reverse : (c : Complex) (f : FaceName) → IsValid c → IsValid (loop_reverse c f)
IsValid-loop_reverse c f h =
    IsValid-from_right (loop_reverse c f) (AreRight-loop_reverse c f (AreRight-from_valid c h)) (record {
      verts = h.limits.verts;
      edges = h.limits.edges;
      faces = rw (length-update c.faces f.0 turned_over) h.limits.faces;
      corners = rw (corner_sum-loop_reverse c f) h.limits.corners;
    })

pub IsSimple-loop_reverse : (c : Complex) (f : FaceName) → IsSimple c → IsSimple (loop_reverse c f)
IsSimple-loop_reverse c f h = h

pub IsSound-loop_reverse : (c : Complex) (f : FaceName) → IsSound c → IsSound (loop_reverse c f)
IsSound-loop_reverse c f h =
    record { valid = IsValid-loop_reverse c f h.valid; simple = IsSimple-loop_reverse c f h.simple }

-- ---- TWICE

-- a face reversed twice is as it was
pub loop_reverse-twice : (c : Complex) (f : FaceName) → loop_reverse (loop_reverse c f) f ≡ c
loop_reverse-twice c f = ap (λ (faces : List (Option FaceRec)). let d : Complex = record c { faces = faces } in d)
    (update-update c.faces f.0 turned_over turned_over
    ∙ update-same c.faces f.0 (λ x. turned_over (turned_over x)) (λ x is. ap (λ (ks : List CornerRec). let y : FaceRec =
    record x { corners = ks } in y) (reversed-reversed x.corners)))

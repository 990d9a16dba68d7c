-- How many corners run along an edge, face by face, and what is known where two faces have just two.
use Rattle.std.proofs.Common.{◌≡◌, ◌≢◌, ℕ, ◌+◌, ◌<◌, ◌≤◌, Bool, true, ◌||◌, List, [], ◌∷◌, ◌++◌, length, get_or, refl}
use Rattle.std.proofs.Common.{sym, ap, ◌∙◌, inl, inr, arith, Option, Some, None}
use Rattle.std.specs.List.{list_any, filter, flat_map, enumerate_from, sum_by, position_or_len, before_first}
use Rattle.std.specs.List.{after_first}
use Rattle.std.proofs.lemmas.List.{length-append, length-map}
use Rattle.std.proofs.lemmas.List.Folds.{list_any_none}
use Rattle.std.proofs.lemmas.List.Sums.{sum_by-cons, sum_by-set, split_at_first, passes_at_first, fails_before_first}
use Rattle.std.proofs.lemmas.Bool.{cases_Bool, cases_lt, both_ways}
use Rattle.mesh_model.specs.Table.{at, erase}
use Rattle.mesh_model.specs.Complex.{Complex, corners_of, corner_sum}
use Rattle.mesh_model.specs.Incidence.{is_along, uses_edge, corners_in, corners_at_edge}
use Rattle.mesh_model.specs.declared.names.EdgeName.{EdgeName}
use Rattle.mesh_model.specs.declared.names.FaceName.{FaceName}
use Rattle.mesh_model.specs.declared.records.CornerRec.{CornerRec}
use Rattle.mesh_model.specs.declared.records.FaceRec.{FaceRec}
use Rattle.mesh_model.proofs.CornerSums.{corner_sum-set}
use Rattle.mesh_model.proofs.Tables.{at-below, at-erase_other}

-- how many corners of a face pass a test
abbrev passing : (CornerRec → Bool) → Option FaceRec → ℕ
passing test o = length (filter (λ k. test k.1) (enumerate_from 0 (corners_of o)))

-- and of all faces
abbrev passing_all : (CornerRec → Bool) → List (Option FaceRec) → ℕ
passing_all test faces = sum_by (passing test) faces

length-where : (test : CornerRec → Bool) (m : ℕ) (faces : List (Option FaceRec))
    → length (flat_map (corners_in test) (enumerate_from m faces)) ≡ passing_all test faces
length-where test m [] = refl
length-where test m (o ∷ os) =
    length-append (corners_in test (m, o)) (flat_map (corners_in test) (enumerate_from (m + 1) os))
    ∙ omega (
      arith,
      length-map (filter (λ k. test k.1) (enumerate_from 0 (corners_of o)))
          (λ (k : ℕ × CornerRec). let p : FaceName × ℕ = (record { 0 = m }, k.0) in p),
      length-where test (m + 1) os,
      sum_by-cons (passing test) o os,
    )

pub some_pass : (test : CornerRec → Bool) (m : ℕ) (ks : List CornerRec) → list_any test ks ≡ true
    → 0 < length (filter (λ k. test k.1) (enumerate_from m ks))
some_pass test m [] h = absurd (cc)
some_pass test m (k ∷ ks) h = elim (cases_Bool (test k)) [
  | inl here ↦ rw here (omega arith)
  | inr later ↦ rw later (some_pass test (m + 1) ks (ap (λ (b : Bool). b || list_any test ks) (sym later) ∙ h))
]

erased : (test : CornerRec → Bool) (faces : List (Option FaceRec)) (n : ℕ) (f : FaceRec) → at faces n ≡ Some f
    → passing_all test (erase faces n) + passing test (Some f) ≡ passing_all test faces
erased test faces n f is =
    let set = sum_by-set (passing test) faces n None None (at-below faces n f is) in
    let here = ap (passing test) is in
    omega arith

-- of three faces with a corner along an edge, three corners at least
pub three_along : (c : Complex) (e : EdgeName) (i j n : ℕ) (f g h : FaceRec) → at c.faces i ≡ Some f
    → at c.faces j ≡ Some g → at c.faces n ≡ Some h → i ≢ j → n ≢ i → n ≢ j
    → uses_edge e f ≡ true → uses_edge e g ≡ true → uses_edge e h ≡ true → 3 ≤ length (corners_at_edge c e)
three_along c e i j n f g h is_f is_g is_h apart_f apart_g apart_h uses_f uses_g uses_h =
    let test : CornerRec → Bool = is_along e in
    let less_f : List (Option FaceRec) = erase c.faces i in
    let less_g : List (Option FaceRec) = erase (erase c.faces i) j in
    let one = erased (is_along e) c.faces i f is_f in
    let two = erased (is_along e) (erase c.faces i) j g (at-erase_other c.faces i j apart_f ∙ is_g) in
    let three = erased (is_along e) (erase (erase c.faces i) j) n h
    (at-erase_other (erase c.faces i) j n (λ same. apart_h (sym same))
    ∙ at-erase_other c.faces i n (λ same. apart_g (sym same)) ∙ is_h) in
    let all = length-where (is_along e) 0 c.faces in
    let a = some_pass (is_along e) 0 f.corners uses_f in
    let b = some_pass (is_along e) 0 g.corners uses_g in
    let d = some_pass (is_along e) 0 h.corners uses_h in
    omega arith

-- ---- A LIST AT ITS FIRST ELEMENT THAT PASSES

pub record AtFirst {X : Type 0} (p : X → Bool) (xs : List X) : Type 0 where
  pub here : X
  pub parts : xs ≡ before_first p xs ++ here ∷ after_first p xs
  pub passes : p here ≡ true

pub at_first : {X : Type 0} (p : X → Bool) (xs : List X) (d : X) → list_any p xs ≡ true → AtFirst p xs
at_first {X = X} p xs d h = elim (cases_lt (position_or_len p xs) (length xs)) [
  | inl less ↦ record {
    here = get_or xs (position_or_len p xs) d;
    parts = split_at_first p xs d less;
    passes =
        passes_at_first p xs d less;
  }
  | inr past ↦ absurd
      (both_ways (list_any p xs) (list_any_none p xs (λ k e less. fails_before_first p xs k e (omega arith))) h)
]

-- ---- LIVE CORNERS

-- a face taken away
pub corner_sum-erase : (faces : List (Option FaceRec)) (n : ℕ) (f : FaceRec) → at faces n ≡ Some f
    → corner_sum (erase faces n) + length f.corners ≡ corner_sum faces
corner_sum-erase faces n f is =
    let set = corner_sum-set faces n None (at-below faces n f is) in
    let here = ap (λ (o : Option FaceRec). length (corners_of o)) is in
    omega arith

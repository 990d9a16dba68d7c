-- The least face that passes a test, among some faces that have all that pass.
use Rattle.std.proofs.Common.{◌≡◌, ℕ, ◌<◌, ◌≤◌, Bool, true, false, cond, eqb, nat_lt, ◌||◌, List, [], ◌∷◌, ◌++◌}
use Rattle.std.proofs.Common.{length, map, get_or, refl, sym, ap, ◌∙◌, subst, inl, inr, arith, Option, Some, None, All, is_some}
use Rattle.std.specs.Prelude.{nat_eq}
use Rattle.std.specs.Cmp.Lexicographic.{pointwise}
use Rattle.std.specs.List.{position, list_all, list_any}
use Rattle.std.specs.Option.{option_map}
use Rattle.std.proofs.lemmas.Bool.{and_parts, and_from, cases_Bool, or_cases, or_left, or_right}
use Rattle.std.proofs.lemmas.Bool.{cases_lt, ltb-true, ltb-false, eq-eqb, eqb-true, true≢false}
use Rattle.std.proofs.lemmas.Bool.Decides.{Decides-eqb}
use Rattle.std.proofs.lemmas.Slice.Eq.{slice_eq-Decides}
use Rattle.std.proofs.lemmas.List.Elements.{All-push}
use Rattle.std.proofs.lemmas.List.Quantifiers.{position-Some}
use Rattle.std.proofs.lemmas.List.{get_or_default}
use Rattle.cust_data.proofs.Finding.{position_none}
use Rattle.mesh_model.specs.Table.{at, passes}
use Rattle.mesh_model.specs.Complex.{Complex, corners_of, verts_of}
use Rattle.mesh_model.specs.Elements.{is_among}
use Rattle.mesh_model.specs.Lookups.{least_face}
use Rattle.mesh_model.specs.Naming.{is_rising, vert_numbers}
use Rattle.mesh_model.specs.declared.names.VertName.{VertName}
use Rattle.mesh_model.specs.declared.names.EdgeName.{EdgeName}
use Rattle.mesh_model.specs.declared.names.FaceName.{FaceName}
use Rattle.mesh_model.specs.declared.records.CornerRec.{CornerRec}
use Rattle.mesh_model.specs.declared.records.FaceRec.{FaceRec}
use Rattle.mesh_model.proofs.NameSets.{same_tests}
use Rattle.mesh_model.proofs.Refusing.{position-none}
use Rattle.mesh_model.proofs.Tables.{at-below}
use Rattle.op_basic.specs.Making.{has_just}
use Rattle.op_basic.specs.Searching.{lesser, lesser_if}
use Rattle.mesh_passes.proofs.NameLists.{same_rising}

abbrev Test : Type 0
Test = FaceName → Bool

-- a face is the least that passes, of some
abbrev pub IsLeast : Test → List FaceName → Option FaceName → Type 0
IsLeast test fs None = All (λ (f : FaceName). test f ≡ false) fs
IsLeast test fs (Some f) = (test f ≡ true) × All (λ (g : FaceName). test g ≡ true → f.0 ≤ g.0) fs

pub least_none : (test : Test) → IsLeast test [] None
least_none test i d less = absurd (omega arith)

-- with one more
least_with : (test : Test) (fs : List FaceName) (f : FaceName) (least : Option FaceName) (b : Bool) → test f ≡ b
    → IsLeast test fs least → IsLeast test (fs ++ f ∷ []) (cond b (lesser least f) least)
least_with test fs f None true is h = (
  is,
  All-push (λ (g : FaceName). test g ≡ true → f.0 ≤ g.0) fs f
      (λ i d less pass. absurd (true≢false (sym pass ∙ h i d less))) (λ pass. omega arith),
)
least_with test fs f None false is h = All-push (λ (g : FaceName). test g ≡ false) fs f h is
least_with test fs f (Some g) true is h = by_order (nat_lt f.0 g.0) refl
  where
    by_order : (b : Bool) → nat_lt f.0 g.0 ≡ b → IsLeast test (fs ++ f ∷ []) (Some (cond b f g))
    by_order true less = (
      is,
      All-push (λ (x : FaceName). test x ≡ true → f.0 ≤ x.0) fs f
          (λ i d within pass. let before = h.1 i d within pass in let under = ltb-true f.0 g.0 less in omega arith)
          (λ pass. omega arith),
    )
    by_order false most = (
      h.0,
      All-push (λ (x : FaceName). test x ≡ true → g.0 ≤ x.0) fs f h.1
          (λ pass. let over = ltb-false f.0 g.0 most in omega arith),
    )
least_with test fs f (Some g) false is h = (
  h.0,
  All-push (λ (x : FaceName). test x ≡ true → g.0 ≤ x.0) fs f h.1
      (λ pass. absurd (true≢false (sym pass ∙ is))),
)

pub least_push : (test : Test) (fs : List FaceName) (f : FaceName) (least : Option FaceName) → IsLeast test fs least
    → IsLeast test (fs ++ f ∷ []) (lesser_if (test f) least f)
least_push test fs f least h = least_with test fs f least (test f) refl h

-- where all that pass are among them, it is the least face of all
pub least_of_all : (c : Complex) (p : FaceRec → Bool) (fs : List FaceName) (least : Option FaceName)
    → ((n : ℕ) (f : FaceRec) → at c.faces n ≡ Some f → p f ≡ true → (i : ℕ) × (i < length fs)
    × ((get_or fs i (record { 0 = 0 })).0 ≡ n))
    → IsLeast (λ (f : FaceName). passes p (at c.faces f.0)) fs least → least ≡ least_face p c
least_of_all c p fs least all h = by_least least h
  where
    passing : (n : ℕ) (o : Option FaceRec) → at c.faces n ≡ o → passes p o ≡ true
        → (i : ℕ) × (i < length fs) × ((get_or fs i (record { 0 = 0 })).0 ≡ n)
    passing n None is pass = absurd (cc)
    passing n (Some f) is pass = all n f is pass

    by_least : (o : Option FaceName) → IsLeast (λ (f : FaceName). passes p (at c.faces f.0)) fs o → o ≡ least_face p c
    by_least None none = sym (ap (option_map (λ (n : ℕ). let f : FaceName = record { 0 = n } in f))
        (position_none (passes p) c.faces (λ j d less.
        let same = ap (passes p) (get_or_default c.faces j None d less) in
        elim (cases_Bool (passes p (get_or c.faces j d))) [
          | inl pass ↦ absurd (let it = passing j (at c.faces j) refl (same ∙ pass) in
              true≢false (sym (same ∙ pass)
              ∙ sym (ap (λ (n : ℕ). passes p (at c.faces n)) it.2) ∙ none it.0 (record { 0 = 0 }) it.1))
          | inr fails ↦ fails
        ])))
    by_least (Some f) some = by_place (position (passes p) c.faces) refl
      where
        by_place : (o : Option ℕ) → position (passes p) c.faces ≡ o
            → Some f ≡ option_map (λ (n : ℕ). let g : FaceName = record { 0 = n } in g) o
        by_place None is = absurd (true≢false (sym some.0 ∙ nowhere f.0 (at c.faces f.0) refl is some.0))
          where
            nowhere : (n : ℕ) (o : Option FaceRec) → at c.faces n ≡ o → position (passes p) c.faces ≡ None
                → passes p (at c.faces n) ≡ true → passes p (at c.faces n) ≡ false
            nowhere n None at_n is pass = ap (passes p) at_n
            nowhere n (Some g) at_n is pass = position-none (passes p) c.faces n None is (at-below c.faces n g at_n)
        by_place (Some n) is =
            let it = position-Some (passes p) c.faces n None is in
            let among = passing n (at c.faces n) refl it.1 in
            let least = some.1 among.0 (record { 0 = 0 }) among.1
            (ap (λ (k : ℕ). passes p (at c.faces k)) among.2 ∙ it.1) in
            let same : f.0 ≡ n = elim (cases_lt f.0 n) [
              | inl less ↦ absurd (true≢false (sym some.0 ∙ it.2 f.0 less))
              | inr most ↦ (let le : f.0 ≤ n = subst (λ (k : ℕ). f.0 ≤ k) among.2 least in omega arith)
            ] in
            ap (λ (k : ℕ). let g : FaceName = record { 0 = k } in Some g) same

-- ---- A FACE WITH JUST SOME VERTICES

-- a number stands in a list
abbrev has : List ℕ → ℕ → Bool
has ns n = list_any (λ (m : ℕ). eqb m n) ns

number_among : (us : List VertName) (n : ℕ) → has (vert_numbers us) n ≡ list_any (λ (w : VertName). eqb w.0 n) us
number_among [] n = refl
number_among (u ∷ us) n = ap (λ (b : Bool). eqb u.0 n || b) (number_among us n)

among_all : (vs us : List VertName) → list_all (is_among us) vs ≡ true → (n : ℕ) → has (vert_numbers vs) n ≡ true
    → has (vert_numbers us) n ≡ true
among_all [] us h n among = absurd (true≢false (sym among))
among_all (v ∷ vs) us h n among =
    let both = and_parts (is_among us v) (list_all (is_among us) vs) h in
    elim (or_cases (eqb v.0 n) (has (vert_numbers vs) n) among) [
      | inl here ↦ number_among us n
          ∙ ap (λ (k : ℕ). list_any (λ (w : VertName). eqb w.0 k) us) (sym (eqb-true v.0 n here)) ∙ both.0
      | inr past ↦ among_all vs us both.1 n past
    ]

all_among : (vs us : List VertName) → ((n : ℕ) → has (vert_numbers vs) n ≡ true → has (vert_numbers us) n ≡ true)
    → list_all (is_among us) vs ≡ true
all_among [] us h = refl
all_among (v ∷ vs) us h = and_from (is_among us v) (list_all (is_among us) vs)
    (sym (number_among us v.0) ∙ h v.0 (or_left (eqb v.0 v.0) (has (vert_numbers vs) v.0) (eq-eqb v.0 v.0 refl)))
    (all_among vs us (λ n among. h n (or_right (eqb v.0 n) (has (vert_numbers vs) n) among)))

-- it has just these where the rising numbers of both are the same
pub just_same : (vs : List VertName) (f : FaceRec) (ns ms : List ℕ) → is_rising ns ≡ true → is_rising ms ≡ true
    → ((n : ℕ) → has ns n ≡ has (vert_numbers vs) n)
    → ((n : ℕ) → has ms n ≡ has (vert_numbers (verts_of f.corners)) n)
    → ns ≡ ms → has_just vs f ≡ true
just_same vs f ns ms rising_n rising_m has_n has_m same =
    let us = verts_of f.corners in
    let alike : (n : ℕ) → has (vert_numbers vs) n ≡ has (vert_numbers us) n =
    λ n. sym (has_n n) ∙ ap (λ (ms : List ℕ). has ms n) same ∙ has_m n in
    and_from (list_all (is_among us) vs) (list_all (is_among vs) us)
    (all_among vs us (λ n among. sym (alike n) ∙ among)) (all_among us vs (λ n among. alike n ∙ among))

pub same_just : (vs : List VertName) (f : FaceRec) (ns ms : List ℕ) → is_rising ns ≡ true → is_rising ms ≡ true
    → ((n : ℕ) → has ns n ≡ has (vert_numbers vs) n)
    → ((n : ℕ) → has ms n ≡ has (vert_numbers (verts_of f.corners)) n)
    → has_just vs f ≡ true → ns ≡ ms
same_just vs f ns ms rising_n rising_m has_n has_m just =
    let us = verts_of f.corners in
    let both = and_parts (list_all (is_among us) vs) (list_all (is_among vs) us) just in
    same_rising ns ms rising_n rising_m (λ n. has_n n
    ∙ same_tests (has (vert_numbers vs) n) (has (vert_numbers us) n)
    (among_all vs us both.0 n) (among_all us vs both.1 n) ∙ sym (has_m n))

abbrev vert : ℕ → VertName
vert n = record { 0 = n }

renumbered : (ns : List ℕ) → vert_numbers (map vert ns) ≡ ns
renumbered [] = refl
renumbered (n ∷ ns) = ap (λ (ms : List ℕ). n ∷ ms) (renumbered ns)

-- what the test of equal numbers tells
pub just_told : (ns ms : List ℕ) (f : FaceRec) → is_rising ns ≡ true → is_rising ms ≡ true
    → ((n : ℕ) → has ms n ≡ has (vert_numbers (verts_of f.corners)) n)
    → pointwise nat_eq ns ms ≡ has_just (map vert ns) f
just_told ns ms f rising_n rising_m has_m =
    let told = slice_eq-Decides Decides-eqb ns ms (pointwise nat_eq ns ms) refl in
    let has_n : (n : ℕ) → has ns n ≡ has (vert_numbers (map vert ns)) n =
    λ n. ap (λ (ms : List ℕ). has ms n) (sym (renumbered ns)) in
    same_tests (pointwise nat_eq ns ms) (has_just (map vert ns) f)
    (λ h. just_same (map vert ns) f ns ms rising_n rising_m has_n has_m (told.0 h))
    (λ h. told.1 (same_just (map vert ns) f ns ms rising_n rising_m has_n has_m h))

-- which vertices are looked for is told by their numbers
pub just_alike : (vs : List VertName) (ns : List ℕ) (o : Option FaceRec)
    → ((n : ℕ) → has ns n ≡ has (vert_numbers vs) n) → passes (has_just (map vert ns)) o ≡ passes (has_just vs) o
just_alike vs ns None alike = refl
just_alike vs ns (Some f) alike =
    let us = verts_of f.corners in
    let same : (n : ℕ) → has (vert_numbers (map vert ns)) n ≡ has (vert_numbers vs) n =
    λ n. ap (λ (ms : List ℕ). has ms n) (renumbered ns) ∙ alike n in
    same_tests (has_just (map vert ns) f) (has_just vs f)
    (λ h. let both = and_parts (list_all (is_among us) (map vert ns)) (list_all (is_among (map vert ns)) us) h in
    and_from (list_all (is_among us) vs) (list_all (is_among vs) us)
    (all_among vs us (λ n among. among_all (map vert ns) us both.0 n (same n ∙ among)))
    (all_among us vs (λ n among. sym (same n) ∙ among_all us (map vert ns) both.1 n among)))
    (λ h. let both = and_parts (list_all (is_among us) vs) (list_all (is_among vs) us) h in
    and_from (list_all (is_among us) (map vert ns)) (list_all (is_among (map vert ns)) us)
    (all_among (map vert ns) us (λ n among. among_all vs us both.0 n (sym (same n) ∙ among)))
    (all_among us (map vert ns) (λ n among. same n ∙ among_all us vs both.1 n among)))

-- a face that has just some vertices has a corner at each of them
pub just_at : (vs : List VertName) (v : VertName) (f : FaceRec) → is_among vs v ≡ true → has_just vs f ≡ true
    → is_among (verts_of f.corners) v ≡ true
just_at vs v f among just =
    let us = verts_of f.corners in
    let both = and_parts (list_all (is_among us) vs) (list_all (is_among vs) us) just in
    sym (number_among us v.0) ∙ among_all vs us both.0 v.0 (number_among vs v.0 ∙ among)

pub just_numbered : (ns : List ℕ) (v : VertName) (f : FaceRec) → has ns v.0 ≡ true
    → has_just (map vert ns) f ≡ true → is_among (verts_of f.corners) v ≡ true
just_numbered ns v f among just = just_at (map vert ns) v f
    (sym (number_among (map vert ns) v.0) ∙ ap (λ (ms : List ℕ). has ms v.0) (renumbered ns) ∙ among) just

-- the same of a face that is there, by the numbers of its corners
pub just_there : (o : Option FaceRec) (ns own ms : List ℕ) → is_some o ≡ true → is_rising ns ≡ true
    → is_rising ms ≡ true → own ≡ vert_numbers (verts_of (corners_of o))
    → ((n : ℕ) → has ms n ≡ has own n) → pointwise nat_eq ns ms ≡ passes (has_just (map vert ns)) o
just_there None ns own ms there rising_n rising_m is members = absurd (cc)
just_there (Some f) ns own ms there rising_n rising_m is members =
    just_told ns ms f rising_n rising_m (λ n. members n ∙ ap (λ (ms : List ℕ). has ms n) is)

pub corner_numbers : (ks : List CornerRec)
    → map (λ (k : VertName × EdgeName). k.0.0) (map (λ (k : CornerRec). (k.vert, k.edge)) ks)
    ≡ vert_numbers (verts_of ks)
corner_numbers [] = refl
corner_numbers (k ∷ ks) = ap (λ (ns : List ℕ). k.vert.0 ∷ ns) (corner_numbers ks)

-- the first vertex of a list is among them
pub first_among : (vs : List VertName) (d : VertName) → 1 ≤ length vs
    → has (vert_numbers vs) (get_or vs 0 d).0 ≡ true
first_among [] d some = absurd (omega arith)
first_among (v ∷ vs) d some = or_left (eqb v.0 v.0) (has (vert_numbers vs) v.0) (eq-eqb v.0 v.0 refl)

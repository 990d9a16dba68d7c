-- Lists of distinct vertices, joined and turned.
use Rattle.std.proofs.Common.{◌≡◌, ℕ, true, false, not, ◌||◌, eqb, List, [], ◌∷◌, ◌++◌, refl, sym, ap, ◌∙◌, inl, inr}
use Rattle.std.proofs.Common.{true≢false}
use Rattle.std.specs.List.{list_any}
use Rattle.std.proofs.lemmas.List.Folds.{list_any-append}
use Rattle.std.proofs.lemmas.Bool.{and_parts, and_from, or_cases, or_parts, or_from, or_left, or_right, not-true}
use Rattle.std.proofs.lemmas.Bool.{not_from_false, eq-eqb, eqb-true, false_from_ne_true}
use Rattle.mesh_model.specs.Elements.{is_among}
use Rattle.mesh_model.specs.Valid.{are_distinct}
use Rattle.mesh_model.specs.declared.names.VertName.{VertName}

-- two lists have no vertex in common
abbrev pub AreApart : List VertName → List VertName → Type 0
AreApart us vs = (u : VertName) → is_among us u ≡ true → is_among vs u ≡ true → ⊥

pub AreApart-symm : (us vs : List VertName) → AreApart us vs → AreApart vs us
AreApart-symm us vs apart u in_vs in_us = apart u in_us in_vs

-- membership speaks of numbers
pub is_among-same : (vs : List VertName) (u v : VertName) → eqb u.0 v.0 ≡ true → is_among vs u ≡ is_among vs v
is_among-same vs u v same = ap (λ (n : ℕ). list_any (λ (w : VertName). eqb w.0 n) vs) (eqb-true u.0 v.0 same)

pub is_among-append : (us vs : List VertName) (u : VertName) → is_among (us ++ vs) u ≡ (is_among us u || is_among vs u)
is_among-append us vs u = list_any-append (λ (w : VertName). eqb w.0 u.0) us vs

pub is_among-first : (v : VertName) (vs : List VertName) → is_among (v ∷ vs) v ≡ true
is_among-first v vs = or_left (eqb v.0 v.0) (is_among vs v) (eq-eqb v.0 v.0 refl)

-- a vertex that is apart from distinct ones, before them
pub distinct-cons : (v : VertName) (vs : List VertName) → is_among vs v ≡ false → are_distinct vs ≡ true
    → are_distinct (v ∷ vs) ≡ true
distinct-cons v vs out rest = and_from (not (is_among vs v)) (are_distinct vs) (not_from_false (is_among vs v) out) rest

pub distinct-uncons : (v : VertName) (vs : List VertName) → are_distinct (v ∷ vs) ≡ true
    → (is_among vs v ≡ false) × (are_distinct vs ≡ true)
distinct-uncons v vs h = let both = and_parts (not (is_among vs v)) (are_distinct vs) h in
    (not-true (is_among vs v) both.0, both.1)

pub distinct-join : (us vs : List VertName) → are_distinct us ≡ true → are_distinct vs ≡ true → AreApart us vs
    → are_distinct (us ++ vs) ≡ true
distinct-join [] vs us_apart vs_apart apart = vs_apart
distinct-join (u ∷ us) vs us_apart vs_apart apart =
    let here = distinct-uncons u us us_apart in
    let out = or_from (is_among us u) (is_among vs u) here.0
    (false_from_ne_true (is_among vs u) (λ in_vs. apart u (is_among-first u us) in_vs)) in
    distinct-cons u (us ++ vs) (is_among-append us vs u ∙ out)
    (distinct-join us vs here.1 vs_apart
    (λ x in_us in_vs. apart x (or_right (eqb u.0 x.0) (is_among us x) in_us) in_vs))

pub record AreDistinctParts (us vs : List VertName) : Type 0 where
  pub first : are_distinct us ≡ true
  pub second : are_distinct vs ≡ true
  pub apart : AreApart us vs

pub distinct-parts : (us vs : List VertName) → are_distinct (us ++ vs) ≡ true → AreDistinctParts us vs
distinct-parts [] vs h = record { first = refl; second = h; apart = λ u in_us in_vs. absurd (true≢false (sym in_us)) }
distinct-parts (u ∷ us) vs h =
    let here = distinct-uncons u (us ++ vs) h in
    let rest = distinct-parts us vs here.1 in
    let out = or_parts (is_among us u) (is_among vs u) (sym (is_among-append us vs u) ∙ here.0) in record {
      first = distinct-cons u us out.0 rest.first;
      second = rest.second;
      apart = λ x in_us in_vs. elim (or_cases (eqb u.0 x.0) (is_among us x) in_us) [
        | inl same ↦ true≢false (sym in_vs ∙ sym (is_among-same vs u x same) ∙ out.1)
        | inr later ↦ rest.apart x later in_vs
      ];
    }

-- distinct vertices stay distinct where the list is turned
pub distinct-turned : (us vs : List VertName) → are_distinct (us ++ vs) ≡ true → are_distinct (vs ++ us) ≡ true
distinct-turned us vs h = let parts = distinct-parts us vs h in
    distinct-join vs us parts.second parts.first (AreApart-symm us vs parts.apart)

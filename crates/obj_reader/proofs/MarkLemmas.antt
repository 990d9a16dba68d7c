-- Lemmas on marks and on distinct vertices.
use Rattle.std.proofs.Common.{◌≡◌, ◌≢◌, ℕ, ◌+◌, ◌<◌, Bool, true, false, not, ◌&&◌, ◌||◌, eqb, List, [], ◌∷◌, ◌++◌}
use Rattle.std.proofs.Common.{length, get_or, take, drop, set, refl, sym, ap, ◌∙◌, inl, inr, arith, true≢false}
use Rattle.std.specs.List.{All}
use Rattle.std.specs.Cmp.{nat_eq_equiv}
use Rattle.std.proofs.Math.Bool.{or-false, or-true, and-false}
use Rattle.std.proofs.lemmas.List.{take_more, get_or-set_same, get_or-set_other}
use Rattle.std.proofs.lemmas.List.{take-append-drop, length-set}
use Rattle.std.proofs.lemmas.List.Folds.{list_any-append}
use Rattle.std.proofs.lemmas.Bool.{eq-eqb}
use Rattle.std.proofs.lemmas.Bool.Decides.{eqb_tells}
use Rattle.mesh_model.specs.Elements.{is_among}
use Rattle.mesh_model.specs.Valid.{are_distinct}
use Rattle.mesh_model.specs.declared.names.VertName.{VertName}

-- the vertex of a number
abbrev named : ℕ → VertName
named n = record { 0 = n }

-- just the vertices of a list have a mark
pub record Marked (mark : ℕ) (vs : List VertName) (marks : List ℕ) : Type 0 where
  pub are : (n : ℕ) → n < length marks → eqb (get_or marks n 0) mark ≡ is_among vs (named n)

-- DISTINCT VERTICES

-- the vertices of a list and one more
pub is_among_push : (vs : List VertName) (v : VertName) (n : ℕ)
    → is_among (vs ++ v ∷ []) (named n) ≡ (is_among vs (named n) || eqb v.0 n)
is_among_push vs v n = list_any-append (λ (u : VertName). eqb u.0 n) vs (v ∷ [])
    ∙ ap (λ (b : Bool). is_among vs (named n) || b) (or-false (eqb v.0 n))

-- a list that repeats a vertex does so with others after it
among_grows : (vs us : List VertName) (n : ℕ) → is_among vs (named n) ≡ true → is_among (vs ++ us) (named n) ≡ true
among_grows vs us n h = list_any-append (λ (u : VertName). eqb u.0 n) vs us
    ∙ ap (λ (b : Bool). b || is_among us (named n)) h

repeats_with : (v : VertName) (vs us : List VertName) (a : Bool) → is_among vs v ≡ a
    → (not a && are_distinct vs) ≡ false → (are_distinct vs ≡ false → are_distinct (vs ++ us) ≡ false)
    → (not (is_among (vs ++ us) v) && are_distinct (vs ++ us)) ≡ false
repeats_with v vs us true among h grows =
    ap (λ (b : Bool). not b && are_distinct (vs ++ us)) (among_grows vs us v.0 among)
repeats_with v vs us false among h grows =
    ap (λ (b : Bool). not (is_among (vs ++ us) v) && b) (grows h) ∙ and-false (not (is_among (vs ++ us) v))

pub repeats_grows : (vs us : List VertName) → are_distinct vs ≡ false → are_distinct (vs ++ us) ≡ false
repeats_grows [] us h = absurd (true≢false h)
repeats_grows (v ∷ vs) us h = repeats_with v vs us (is_among vs v) refl h (repeats_grows vs us)

-- distinct vertices and one more
push_with : (a b d e : Bool) → (not (a || b) && (d && not e)) ≡ ((not a && d) && not (b || e))
push_with true b d e = refl
push_with false true true e = refl
push_with false true false e = refl
push_with false false d e = refl

pub distinct_push : (vs : List VertName) (v : VertName)
    → are_distinct (vs ++ v ∷ []) ≡ (are_distinct vs && not (is_among vs v))
distinct_push [] v = refl
distinct_push (u ∷ us) v =
    ap (λ (b : Bool). not b && are_distinct (us ++ v ∷ [])) (is_among_push us v u.0)
    ∙ ap (λ (b : Bool). not (is_among us u || eqb v.0 u.0) && b) (distinct_push us v)
    ∙ ap (λ (b : Bool). not (is_among us u || b) && (are_distinct us && not (is_among us v)))
    (nat_eq_equiv.symm v.0 u.0)
    ∙ push_with (is_among us u) (eqb u.0 v.0) (are_distinct us) (is_among us v)

-- MARKS

differ_false : (a b : ℕ) → a ≢ b → eqb a b ≡ false
differ_false a b h = elim (eqb_tells a b) [ inl e ↦ absurd (h e.1) | inr e ↦ e.0 ]

-- one vertex more
pub marked_more : (mark : ℕ) (vs : List VertName) (v : VertName) (marks : List ℕ) → v.0 < length marks
    → Marked mark vs marks → Marked mark (vs ++ v ∷ []) (set marks v.0 mark)
marked_more mark vs v marks here h = record {
  are = λ n less.
      let within : n < length marks = omega (arith, length-set marks v.0 mark) in
      elim (eqb_tells v.0 n) [
        | inl e ↦
            let now : get_or (set marks v.0 mark) n 0 ≡ mark =
            ap (λ (k : ℕ). get_or (set marks v.0 mark) k 0) (sym e.1) ∙ get_or-set_same marks v.0 mark 0 here in
            let among : is_among (vs ++ v ∷ []) (named n) ≡ true =
            is_among_push vs v n ∙ ap (λ (b : Bool). is_among vs (named n) || b) e.0
            ∙ or-true (is_among vs (named n)) in
            eq-eqb (get_or (set marks v.0 mark) n 0) mark now ∙ sym among
        | inr e ↦
            let now : get_or (set marks v.0 mark) n 0 ≡ get_or marks n 0 =
            get_or-set_other marks v.0 n mark 0 (λ s. e.1 (sym s)) in
            let among : is_among (vs ++ v ∷ []) (named n) ≡ is_among vs (named n) =
            is_among_push vs v n ∙ ap (λ (b : Bool). is_among vs (named n) || b) e.0
            ∙ or-false (is_among vs (named n)) in
            ap (λ (m : ℕ). eqb m mark) now ∙ h.are n within ∙ sym among
      ];
}

-- THE LOOP OVER VERTICES

-- one vertex more
pub take_more_vert : (vs : List VertName) (i : ℕ) (v : VertName) → i < length vs → get_or vs i v ≡ v
    → take (i + 1) vs ≡ take i vs ++ v ∷ []
take_more_vert vs i v here at = take_more vs i v here ∙ ap (λ (u : VertName). take i vs ++ u ∷ []) at

-- a vertex that has the mark stands twice
pub marked_twice : (mark : ℕ) (vs : List VertName) (i : ℕ) (v : VertName) (marks : List ℕ) → i < length vs
    → get_or vs i v ≡ v → Marked mark (take i vs) marks → v.0 < length marks → get_or marks v.0 0 ≡ mark
    → are_distinct vs ≡ false
marked_twice mark vs i v marks here at h within found =
    let among : is_among (take i vs) v ≡ true = sym (h.are v.0 within) ∙ eq-eqb (get_or marks v.0 0) mark found in
    let some : are_distinct (take (i + 1) vs) ≡ false =
    ap are_distinct (take_more_vert vs i v here at) ∙ distinct_push (take i vs) v
    ∙ ap (λ (b : Bool). are_distinct (take i vs) && not b) among ∙ and-false (are_distinct (take i vs)) in
    ap are_distinct (sym (take-append-drop (i + 1) vs)) ∙ repeats_grows (take (i + 1) vs) (drop (i + 1) vs) some

-- a vertex that hasn't stands once so far
pub marked_once : (mark : ℕ) (vs : List VertName) (i : ℕ) (v : VertName) (marks : List ℕ) → i < length vs
    → get_or vs i v ≡ v → Marked mark (take i vs) marks → are_distinct (take i vs) ≡ true → v.0 < length marks
    → get_or marks v.0 0 ≢ mark → are_distinct (take (i + 1) vs) ≡ true
marked_once mark vs i v marks here at h distinct within other =
    let among : is_among (take i vs) v ≡ false =
    sym (h.are v.0 within) ∙ differ_false (get_or marks v.0 0) mark other in
    ap are_distinct (take_more_vert vs i v here at) ∙ distinct_push (take i vs) v
    ∙ ap (λ (b : Bool). b && not (is_among (take i vs) v)) distinct ∙ ap not among

-- the marks after one vertex more
pub marked_next : (mark : ℕ) (vs : List VertName) (i : ℕ) (v : VertName) (marks : List ℕ) → i < length vs
    → get_or vs i v ≡ v → Marked mark (take i vs) marks → v.0 < length marks
    → Marked mark (take (i + 1) vs) (set marks v.0 mark)
marked_next mark vs i v marks here at h within =
    rw (take_more_vert vs i v here at) (marked_more mark (take i vs) v marks within h)

-- a mark that is new stands nowhere
pub none_marked : (mark : ℕ) (marks : List ℕ) → All (λ m. m < mark) marks → Marked mark [] marks
none_marked mark marks fresh = record {
  are =
      λ n less. differ_false (get_or marks n 0) mark (λ same. absurd (omega (arith, fresh n 0 less, same)));
}

-- Polygons of corners, position by position.
use Rattle.std.proofs.Common.{◌≡◌, ℕ, zero, suc, ◌+◌, ◌<◌, true, not, cond, nat_lt, eqb, List, [], ◌∷◌, ◌++◌, length}
use Rattle.std.proofs.Common.{get_or, take, drop, refl, sym, ap, ◌∙◌, arith}
use Rattle.std.specs.List.{zip, All}
use Rattle.std.proofs.lemmas.Bool.{and_parts, and_from, not-true, not_from_false, ne_eqb, eq-eqb, true≢false}
use Rattle.std.proofs.lemmas.List.{length-map, get_or-map}
use Rattle.std.proofs.lemmas.List.Folds.{list_any_at, list_any_none}
use Rattle.std.proofs.lemmas.Slice.Zip.{get_or-zip, length-zip}
use Rattle.std.proofs.lemmas.Grind.{common_steps}
use Rattle.mesh_model.specs.Table.{at, passes}
use Rattle.mesh_model.specs.Complex.{Complex, verts_of}
use Rattle.mesh_model.specs.Incidence.{joins, sides}
use Rattle.mesh_model.specs.Elements.{is_among}
use Rattle.mesh_model.specs.Valid.{are_distinct, is_along_side, is_closed, IsPolygon}
use Rattle.mesh_model.specs.declared.names.VertName.{VertName}
use Rattle.mesh_model.specs.declared.records.CornerRec.{CornerRec}
use Rattle.mesh_model.proofs.Lists.{list_all-All, All-list_all}

-- the position after one in a polygon of so many
abbrev pub after : ℕ → ℕ → ℕ
after n i = cond (nat_lt (i + 1) n) (i + 1) 0

pub length-sides : (vs : List VertName) → length (sides vs) ≡ length vs
length-sides vs = grind (arith, common_steps, length-zip)

length-turned : (vs : List VertName) → length (drop 1 vs ++ take 1 vs) ≡ length vs
length-turned vs = grind (arith, common_steps)

-- a list with its first element at the end
get_or-turned : (vs : List VertName) (i : ℕ) (d : VertName) → i < length vs
    → get_or (drop 1 vs ++ take 1 vs) i d ≡ get_or vs (after (length vs) i) d
get_or-turned vs i d h = grind (arith, common_steps)

pub get_or-sides : (vs : List VertName) (i : ℕ) (d e : VertName) → i < length vs
    → get_or (sides vs) i (d, e) ≡ (get_or vs i d, get_or vs (after (length vs) i) e)
get_or-sides vs i d e h =
    let long : i < length (drop 1 vs ++ take 1 vs) = omega (arith, length-turned vs) in
    get_or-zip vs (drop 1 vs ++ take 1 vs) i (d, e) h long
    ∙ ap (λ (x : VertName). (get_or vs i d, x)) (get_or-turned vs i e h)

pub after-below : (n i : ℕ) → i < n → after n i < n
after-below n i h = grind arith

-- ---- CLOSED

-- each corner's edge joins its vertex and the next one's
abbrev pub IsClosedAt : Complex → List CornerRec → Type 0
IsClosedAt c ks = (i : ℕ) (d : CornerRec) → i < length ks
    → passes (joins (get_or ks i d).vert (get_or ks (after (length ks) i) d).vert) (at c.edges (get_or ks i d).edge.0)
    ≡ true

-- a corner beside its side
beside : (ks : List CornerRec) (i : ℕ) (d : CornerRec) (v w : VertName) → i < length ks
    → get_or (zip ks (sides (verts_of ks))) i (d, (v, w))
    ≡ (get_or ks i d, ((get_or ks i d).vert, (get_or ks (after (length ks) i) d).vert))
beside ks i d v w h =
    let vert : CornerRec → VertName = λ k. k.vert in
    let long : length (verts_of ks) ≡ length ks = length-map ks vert in
    let long_sides : i < length (sides (verts_of ks)) = omega (arith, length-sides (verts_of ks)) in
    let within : i < length (verts_of ks) = omega arith in
    let here : get_or (verts_of ks) i v ≡ (get_or ks i d).vert = get_or-map vert ks i d v h in
    let next : get_or (verts_of ks) (after (length ks) i) w ≡ (get_or ks (after (length ks) i) d).vert =
    get_or-map vert ks (after (length ks) i) d w (after-below (length ks) i h) in
    get_or-zip ks (sides (verts_of ks)) i (d, (v, w)) h long_sides
    ∙ ap (λ (s : VertName × VertName). (get_or ks i d, s)) (get_or-sides (verts_of ks) i v w within
    ∙ rw (long, here, next) refl)

length-beside : (ks : List CornerRec) → length (zip ks (sides (verts_of ks))) ≡ length ks
length-beside ks = grind (arith, common_steps, length-zip, length-sides, length-map)

pub closed-at : (c : Complex) (ks : List CornerRec) → is_closed c.edges ks ≡ true → IsClosedAt c ks
closed-at c ks h i d less =
    let long = length-beside ks in
    sym (ap (is_along_side c.edges) (beside ks i d d.vert d.vert less))
    ∙ list_all-All (is_along_side c.edges) (zip ks (sides (verts_of ks))) h i (d, (d.vert, d.vert)) (omega arith)

pub closed-from : (c : Complex) (ks : List CornerRec) → IsClosedAt c ks → is_closed c.edges ks ≡ true
closed-from c ks h = All-list_all (is_along_side c.edges) (zip ks (sides (verts_of ks)))
    (λ i d less. let long = length-beside ks in let within : i < length ks = omega arith in
    ap (is_along_side c.edges) (beside ks i d.0 d.1.0 d.1.1 within) ∙ h i d.0 within)

-- ---- DISTINCT

-- equal vertices stand at one position
abbrev pub AreApart : List VertName → Type 0
AreApart vs = (i j : ℕ) (d : VertName) → i < length vs → j < length vs → (get_or vs i d).0 ≡ (get_or vs j d).0 → i ≡ j

not_among : (vs : List VertName) (v d : VertName) (j : ℕ) → not (is_among vs v) ≡ true → j < length vs
    → (get_or vs j d).0 ≡ v.0 → ⊥
not_among vs v d j out less same =
    true≢false (sym (list_any_at (λ (w : VertName). eqb w.0 v.0) vs j d less (eq-eqb (get_or vs j d).0 v.0 same))
    ∙ not-true (is_among vs v) out)

pub distinct-at : (vs : List VertName) → are_distinct vs ≡ true → AreApart vs
distinct-at [] h i j d l m same = absurd (omega arith)
distinct-at (v ∷ vs) h zero zero d l m same = refl
distinct-at (v ∷ vs) h zero (suc j) d l m same = let both = and_parts (not (is_among vs v)) (are_distinct vs) h in
    absurd (not_among vs v d j both.0 (omega arith) (sym same))
distinct-at (v ∷ vs) h (suc i) zero d l m same = let both = and_parts (not (is_among vs v)) (are_distinct vs) h in
    absurd (not_among vs v d i both.0 (omega arith) same)
distinct-at (v ∷ vs) h (suc i) (suc j) d l m same =
    let both = and_parts (not (is_among vs v)) (are_distinct vs) h in
    ap (λ (n : ℕ). suc n) (distinct-at vs both.1 i j d (omega arith) (omega arith) same)

pub distinct-from : (vs : List VertName) → AreApart vs → are_distinct vs ≡ true
distinct-from [] h = refl
distinct-from (v ∷ vs) h = and_from (not (is_among vs v)) (are_distinct vs)
    (not_from_false (is_among vs v) (list_any_none (λ (w : VertName). eqb w.0 v.0) vs
    (λ k d less. ne_eqb (get_or vs k d).0 v.0 (λ same. let off : suc k ≡ 0 =
    h (suc k) 0 d (omega arith) (omega arith) same in absurd (omega arith)))))
    (distinct-from vs (λ i j d l m same. let one : suc i ≡ suc j =
    h (suc i) (suc j) d (omega arith) (omega arith) same in omega arith))

-- ---- THE SAME RING

-- corners with the same vertices have the same list of them
pub verts_of-alike : (ks js : List CornerRec) → length js ≡ length ks
    → ((i : ℕ) (d : CornerRec) → i < length ks → (get_or js i d).vert ≡ (get_or ks i d).vert)
    → verts_of js ≡ verts_of ks
verts_of-alike [] [] long h = refl
verts_of-alike [] (j ∷ js) long h = absurd (omega arith)
verts_of-alike (k ∷ ks) [] long h = absurd (omega arith)
verts_of-alike (k ∷ ks) (j ∷ js) long h =
    rw (h 0 k (omega arith), verts_of-alike ks js (omega arith) (λ i d less. h (suc i) d (omega arith))) refl

-- a polygon stays one where its corners keep their vertices and edges
pub IsPolygon-alike : (c : Complex) (ks js : List CornerRec) → length js ≡ length ks
    → ((i : ℕ) (d : CornerRec) → i < length ks
    → ((get_or js i d).vert ≡ (get_or ks i d).vert) × ((get_or js i d).edge ≡ (get_or ks i d).edge))
    → IsPolygon c.edges ks → IsPolygon c.edges js
IsPolygon-alike c ks js long same r = record {
  least = rw long r.least;
  most = rw long r.most;
  distinct = ap are_distinct (verts_of-alike ks js long (λ i d less. (same i d less).0)) ∙ r.distinct;
  closed = closed-from c js (λ i d less.
      let within : i < length ks = omega arith in
      let here = same i d within in
      let next = same (after (length ks) i) d (after-below (length ks) i within) in
      rw (long, here.0, here.1, next.0) (closed-at c ks r.closed i d within));
}

-- a polygon stays one where the records of its edges stay
pub IsPolygon-where : (d c : Complex) (ks : List CornerRec)
    → All (λ (k : CornerRec). at d.edges k.edge.0 ≡ at c.edges k.edge.0) ks → IsPolygon c.edges ks
    → IsPolygon d.edges ks
IsPolygon-where d c ks same r = record {
  least = r.least;
  most = r.most;
  distinct = r.distinct;
  closed = closed-from d ks
      (λ i q less. ap (passes (joins (get_or ks i q).vert (get_or ks (after (length ks) i) q).vert)) (same i q less)
      ∙ closed-at c ks r.closed i q less);
}

-- Corners turned over, position by position: they stay a polygon, and turned over twice they are as before.
use Rattle.std.proofs.Common.{◌≡◌, ℕ, zero, suc, ◌+◌, ◌-◌, ◌<◌, ◌≤◌, nat_lt, List, [], ◌∷◌, ◌++◌, length, get_or, map}
use Rattle.std.proofs.Common.{take, drop, reverse, refl, sym, ap, subst, ◌∙◌, inl, inr, arith, Option, Some, None, All}
use Rattle.std.proofs.Common.{zip}
use Rattle.std.proofs.lemmas.List.{same_lists, length-map, get_or-map, length-reverse, get_or-reverse}
use Rattle.std.proofs.lemmas.Slice.Zip.{get_or-zip, length-zip}
use Rattle.std.proofs.lemmas.Bool.{cases_lt, cond-true, cond-false, lt-ltb, le-ltb}
use Rattle.mesh_model.specs.Table.{at, passes}
use Rattle.mesh_model.specs.Complex.{Complex, verts_of}
use Rattle.mesh_model.specs.Incidence.{joins}
use Rattle.mesh_model.specs.Kernel.{along, reversed}
use Rattle.mesh_model.specs.KernelLaws.{TurnedOver}
use Rattle.mesh_model.specs.Valid.{IsPolygon}
use Rattle.mesh_model.specs.declared.names.VertName.{VertName}
use Rattle.mesh_model.specs.declared.names.EdgeName.{EdgeName}
use Rattle.mesh_model.specs.declared.records.EdgeRec.{EdgeRec}
use Rattle.mesh_model.specs.declared.records.CornerRec.{CornerRec}
use Rattle.mesh_model.proofs.Edges.{joins-turned}
use Rattle.mesh_model.proofs.Polygons.{after, after-below, closed-at, closed-from, distinct-at, distinct-from}
use Rattle.mesh_model.proofs.Polygons.{IsClosedAt, AreApart}

-- where the corner at a position stood before
abbrev pub back : ℕ → ℕ → ℕ
back n zero = 0
back n (suc i) = n - suc i

length-turned : (ks : List CornerRec) → length (take 1 ks ++ reverse (drop 1 ks)) ≡ length ks
length-turned [] = refl
length-turned (k ∷ ks) = ap (λ (n : ℕ). suc n) (length-reverse ks)

get_or-turned : (ks : List CornerRec) (i : ℕ) (d : CornerRec) → i < length ks
    → get_or (take 1 ks ++ reverse (drop 1 ks)) i d ≡ get_or ks (back (length ks) i) d
get_or-turned [] i d h = absurd (omega arith)
get_or-turned (k ∷ ks) zero d h = refl
get_or-turned (k ∷ ks) (suc i) d h =
    let e : length (k ∷ ks) - suc i ≡ suc (length ks - 1 - i) = omega arith in
    get_or-reverse ks i d (omega arith) ∙ ap (λ (n : ℕ). get_or (k ∷ ks) n d) (sym e)

pub length-reversed : (ks : List CornerRec) → length (reversed ks) ≡ length ks
length-reversed ks =
    let a = length-turned ks in
    let b : length (reverse (map (λ (k : CornerRec). k.edge) ks)) ≡ length ks =
    length-reverse (map (λ (k : CornerRec). k.edge) ks) ∙ length-map ks (λ (k : CornerRec). k.edge) in
    length-map (zip (take 1 ks ++ reverse (drop 1 ks)) (reverse (map (λ (k : CornerRec). k.edge) ks))) along
    ∙ omega (arith, length-zip (take 1 ks ++ reverse (drop 1 ks)) (reverse (map (λ (k : CornerRec). k.edge) ks)))

-- the corner at each position: the first stays, the others stand the other way round, and each has the edge of the
-- corner that was before it
pub get_or-reversed : (ks : List CornerRec) (i : ℕ) (d : CornerRec) → i < length ks
    → get_or (reversed ks) i d ≡ record (get_or ks (back (length ks) i) d) {
      edge =
          (get_or ks (length ks - 1 - i) d).edge;
    }
get_or-reversed ks i d h =
    let edge : CornerRec → EdgeName = λ k. k.edge in
    let front = take 1 ks ++ reverse (drop 1 ks) in
    let long = length-turned ks in
    let long_edges : length (map edge ks) ≡ length ks = length-map ks edge in
    let long_back : length (reverse (map edge ks)) ≡ length ks = length-reverse (map edge ks) ∙ long_edges in
    let zipped = get_or-zip front (reverse (map edge ks)) i (d, d.edge) (omega arith) (omega arith) in
    let own : get_or (reverse (map edge ks)) i d.edge ≡ (get_or ks (length ks - 1 - i) d).edge =
    get_or-reverse (map edge ks) i d.edge (omega arith)
    ∙ ap (λ (n : ℕ). get_or (map edge ks) (n - 1 - i) d.edge) long_edges
    ∙ get_or-map edge ks (length ks - 1 - i) d d.edge (omega arith) in
    get_or-map along (zip front (reverse (map edge ks))) i (
      d,
      d.edge,
    ) d (omega (arith, length-zip front (reverse (map edge ks))))
    ∙ ap along zipped
    ∙ rw (get_or-turned ks i d h, own) refl

back-below : (n i : ℕ) → i < n → back n i < n
back-below n zero h = omega arith
back-below n (suc i) h = omega arith

back-back : (n i : ℕ) → i < n → back n (back n i) ≡ i
back-back n zero h = refl
back-back n (suc i) h = again (n - suc i) refl
  where
    again : (j : ℕ) → n - suc i ≡ j → back n j ≡ suc i
    again zero e = absurd (omega arith)
    again (suc j) e = omega arith

-- turned over twice
pub reversed-reversed : (ks : List CornerRec) → reversed (reversed ks) ≡ ks
reversed-reversed ks = same_lists (reversed (reversed ks)) ks (length-reversed (reversed ks)
    ∙ length-reversed ks) (λ i d less.
    let long = length-reversed ks in
    let within : i < length ks = omega (arith, length-reversed (reversed ks)) in
    let n = length ks in
    get_or-reversed (reversed ks) i d (omega arith)
    ∙ ap (λ (m : ℕ). let k : CornerRec =
    record (get_or (reversed ks) (back m i) d) { edge = (get_or (reversed ks) (m - 1 - i) d).edge } in k) long
    ∙ rw (
      get_or-reversed ks (back (length ks) i) d (back-below (length ks) i within),
      get_or-reversed ks (length ks - 1 - i) d (omega arith),
      back-back (length ks) i within,
    )
    (ap (λ (m : ℕ). let k : CornerRec = record (get_or ks i d) { edge = (get_or ks m d).edge } in k) (omega arith)))

-- ---- THE RING

after-more : (n i : ℕ) → i + 1 < n → after n i ≡ i + 1
after-more n i h = cond-true (nat_lt (i + 1) n) (i + 1) 0 (lt-ltb (i + 1) n h)

after-last : (n i : ℕ) → n ≤ i + 1 → after n i ≡ 0
after-last n i h = cond-false (nat_lt (i + 1) n) (i + 1) 0 (le-ltb (i + 1) n h)

-- the corner after one stood before it
back-after : (n i : ℕ) → i < n → back n (after n i) ≡ n - 1 - i
back-after n i h = elim (cases_lt (i + 1) n) [
  | inl more ↦ ap (back n) (after-more n i more ∙ suc_is i) ∙ omega arith
  | inr last ↦ ap (back n) (after-last n i last) ∙ omega arith
]
  where
    suc_is : (k : ℕ) → k + 1 ≡ suc k
    suc_is k = omega arith

-- and the corner itself stood after that one
back-is_after : (n i : ℕ) → i < n → back n i ≡ after n (n - 1 - i)
back-is_after n zero h = sym (after-last n (n - 1 - 0) (omega arith))
back-is_after n (suc i) h = sym (after-more n (n - 1 - suc i) (omega arith) ∙ omega arith)

passes-turned : (v w : VertName) (o : Option EdgeRec) → passes (joins v w) o ≡ passes (joins w v) o
passes-turned v w None = refl
passes-turned v w (Some e) = joins-turned v w e

closed-reversed : (c : Complex) (ks : List CornerRec) → IsClosedAt c ks → IsClosedAt c (reversed ks)
closed-reversed c ks closed i d less =
    let long = length-reversed ks in
    let n = length ks in
    let within : i < length ks = omega arith in
    let here = get_or-reversed ks i d within in
    let next = get_or-reversed ks (after (length ks) i) d (after-below (length ks) i within) in
    let m = length ks - 1 - i in
    let was = closed (length ks - 1 - i) d (omega arith) in
    rw (long, here, next, back-is_after (length ks) i within, back-after (length ks) i within)
    (passes-turned (get_or ks (after (length ks) (length ks - 1 - i)) d).vert (get_or ks (length ks - 1 - i) d).vert
    (at c.edges (get_or ks (length ks - 1 - i) d).edge.0) ∙ was)

apart-reversed : (ks : List CornerRec) → AreApart (verts_of ks) → AreApart (verts_of (reversed ks))
apart-reversed ks apart i j d l m same =
    let vert : CornerRec → VertName = λ k. k.vert in
    let dk : CornerRec = record { vert = d; edge = record { 0 = 0 }; vals = [] } in
    let long : length (verts_of (reversed ks)) ≡ length ks = length-map (reversed ks) vert ∙ length-reversed ks in
    let long_old : length (verts_of ks) ≡ length ks = length-map ks vert in
    let long_new = length-reversed ks in
    let was : (k : ℕ) → k < length ks
    → get_or (verts_of (reversed ks)) k d ≡ get_or (verts_of ks) (back (length ks) k) d =
    λ k less. get_or-map vert (reversed ks) k dk d (omega arith) ∙ ap vert (get_or-reversed ks k dk less)
    ∙ sym (get_or-map vert ks (back (length ks) k) dk d (back-below (length ks) k less)) in
    let i_in : i < length ks = omega arith in
    let j_in : j < length ks = omega arith in
    let i_back : back (length ks) i < length ks = back-below (length ks) i i_in in
    let j_back : back (length ks) j < length ks = back-below (length ks) j j_in in
    let one : back (length ks) i ≡ back (length ks) j =
    apart (back (length ks) i) (back (length ks) j) d (omega arith) (omega arith)
    (ap (λ (v : VertName). v.0) (sym (was i i_in)) ∙ same ∙ ap (λ (v : VertName). v.0) (was j j_in)) in
    sym (back-back (length ks) i i_in) ∙ ap (back (length ks)) one ∙ back-back (length ks) j j_in

-- a polygon turned over is a polygon
pub IsPolygon-reversed : (c : Complex) (ks : List CornerRec) → IsPolygon c.edges ks → IsPolygon c.edges (reversed ks)
IsPolygon-reversed c ks r = record {
  least = rw (length-reversed ks) r.least;
  most = rw (length-reversed ks) r.most;
  distinct = distinct-from (verts_of (reversed ks)) (apart-reversed ks (distinct-at (verts_of ks) r.distinct));
  closed = closed-from c (reversed ks) (closed-reversed c ks (closed-at c ks r.closed));
}

-- what holds of each corner whatever its edge, and of each edge, holds of those turned over
pub All-reversed : (P : CornerRec → Type 0) (ks : List CornerRec)
    → ((i j : ℕ) (d : CornerRec) → i < length ks → j < length ks
    → P (record (get_or ks i d) { edge = (get_or ks j d).edge })) → All P (reversed ks)
All-reversed P ks h i d less =
    let long = length-reversed ks in
    let within : i < length ks = omega arith in
    subst P (sym (get_or-reversed ks i d within))
    (h (back (length ks) i) (length ks - 1 - i) d (back-below (length ks) i within) (omega arith))

-- ---- THE EXACT LIST

back-from : (n t : ℕ) → 0 < t → back n t ≡ n - t
back-from n zero h = absurd (omega arith)
back-from n (suc t) h = refl

pub turned_over : TurnedOver
turned_over ks d some = (
  get_or-reversed ks 0 d some
      ∙ ap (λ (m : ℕ). let k : CornerRec = record (get_or ks 0 d) { edge = (get_or ks m d).edge } in k) (omega arith),
  λ t above less. get_or-reversed ks t d less
      ∙ rw (back-from (length ks) t above) (ap (λ (m : ℕ). let k : CornerRec =
      record (get_or ks (length ks - t) d) { edge = (get_or ks m d).edge } in k) (omega arith)),
)

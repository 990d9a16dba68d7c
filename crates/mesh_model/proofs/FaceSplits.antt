-- A face split by an edge between two of its corners: the complex stays valid, and simple where no edge joined the two.
use Rattle.std.proofs.Common.{◌≡◌, ◌≢◌, ℕ, suc, ◌+◌, ◌-◌, ◌<◌, ◌≤◌, true, false, not, ◌&&◌, eqb, ltb, min, max, List}
use Rattle.std.proofs.Common.{[], ◌∷◌, ◌++◌, length, take, drop, get_or, refl, sym, ap, ◌∙◌, subst, inl, inr, arith}
use Rattle.std.proofs.Common.{Some, None}
use Rattle.std.specs.List.{All}
use Rattle.std.proofs.lemmas.List.{length-append, append_assoc, length-take-le, length-drop, take-append-drop}
use Rattle.std.proofs.lemmas.List.{drop-drop, drop_more, length_push, length-map, get_or-map}
use Rattle.std.proofs.lemmas.List.Elements.{All-cons, All-append, All-head, All-tail, All-nil}
use Rattle.std.proofs.lemmas.Bool.{cases_eq, cases_order, or_parts, or_from, and_parts, ltb-true, eqb-false, eq-eqb}
use Rattle.std.proofs.lemmas.Bool.{not-true, cond-true, cond-false, ne_eqb}
use Rattle.mesh_model.specs.Table.{at, IsThere, update}
use Rattle.mesh_model.specs.Complex.{Complex, has, verts_of, width, corner_sum}
use Rattle.mesh_model.specs.Making.{edge_from_to}
use Rattle.mesh_model.specs.Valid.{are_distinct, IsPolygon, IsWithinLimits, IsValid, IsSimple, IsSound}
use Rattle.mesh_model.specs.Lookups.{face_rec, corner_rec, no_corner, next_edge}
use Rattle.mesh_model.specs.Renaming.{along}
use Rattle.mesh_model.specs.Refusals.{unless, unless_there, unless_too_many}
use Rattle.mesh_model.specs.Euler.{outer_part, inner_part, split_face_between, split_face, place_after, are_neighbours}
use Rattle.mesh_model.specs.Euler.{split_face_refusal}
use Rattle.mesh_model.specs.declared.names.Elem.TheVariants.{Face}
use Rattle.mesh_model.specs.declared.names.Kind.TheVariants.{Edges}
use Rattle.mesh_model.specs.declared.names.VertName.{VertName}
use Rattle.mesh_model.specs.declared.names.EdgeName.{EdgeName}
use Rattle.mesh_model.specs.declared.names.FaceName.{FaceName}
use Rattle.mesh_model.specs.declared.refusal.Why.TheVariants.{BadValue, Adjacent}
use Rattle.mesh_model.specs.declared.records.EdgeRec.{EdgeRec}
use Rattle.mesh_model.specs.declared.records.CornerRec.{CornerRec}
use Rattle.mesh_model.specs.declared.records.FaceRec.{FaceRec}
use Rattle.mesh_model.proofs.Tables.{Extends, Extends-append, at-append, at-append_new, was-updated, length-update}
use Rattle.mesh_model.proofs.Grown.{IsPolygon-Extends}
use Rattle.mesh_model.proofs.Makings.{JoinsNone, IsSimple-with_edge}
use Rattle.mesh_model.proofs.CornerSums.{corner_sum-push, corner_sum-update}
use Rattle.mesh_model.proofs.Zeros.{length-zeros, in_range-zeros}
use Rattle.mesh_model.proofs.Polygons.{distinct-at}
use Rattle.mesh_model.proofs.Paths.{start_of, nowhere, IsCircle, IsCircle-from_polygon, IsCircle-turned}
use Rattle.mesh_model.proofs.Paths.{IsPolygon-from_circle}
use Rattle.mesh_model.proofs.Circles.{joins-ahead, joins-back, path-has_ends, leads-from, stay_all, IsCircle-outer}
use Rattle.mesh_model.proofs.Circles.{IsCircle-inner}
use Rattle.mesh_model.proofs.Walks.{All-left, All-right}
use Rattle.mesh_model.proofs.Looking.{at-face_rec}
use Rattle.mesh_model.proofs.Refusing.{first_of-none, unless-none, there-none, limits-none}
use Rattle.mesh_model.proofs.Right.{AreRight, IsEdgeRight, IsFaceRight, HasSameLayers, HasVals, end-there}
use Rattle.mesh_model.proofs.Right.{IsVertRight-same, IsEdgeRight-same, HasVals-same, face-same, face-with}
use Rattle.mesh_model.proofs.Right.{AreRight-from_valid, IsValid-from_right}

-- ---- A LIST CUT AT TWO POSITIONS

-- what stands before the first position, at it, between the two, at the second, and after it
record Cut (ks : List CornerRec) (i j : ℕ) : Type 0 where
  before : List CornerRec
  first : CornerRec
  between : List CornerRec
  second : CornerRec
  later : List CornerRec
  is_first : first ≡ get_or ks i no_corner
  is_second : second ≡ get_or ks j no_corner
  whole : ks ≡ before ++ (first ∷ (between ++ (second ∷ later)))
  outer : (e : EdgeName) → outer_part e i j ks ≡ before ++ (along e first ∷ second ∷ later)
  inner : (e : EdgeName) → inner_part e i j ks ≡ first ∷ (between ++ (along e second ∷ []))
  count_before : length before ≡ i
  count_between : i + suc (length between) ≡ j
  count : j + suc (length later) ≡ length ks

cut : (ks : List CornerRec) (i j : ℕ) → i < j → j < length ks → Cut ks i j
cut ks i j below inside =
    let gap : j - i ≡ suc (j - (i + 1)) = omega arith in
    let from_i : drop i ks ≡ get_or ks i no_corner ∷ drop (i + 1) ks = drop_more ks i no_corner (omega arith) in
    let from_j : drop j ks ≡ get_or ks j no_corner ∷ drop (j + 1) ks = drop_more ks j no_corner inside in
    let middle : take (j - i) (drop i ks) ≡ get_or ks i no_corner ∷ take (j - (i + 1)) (drop (i + 1) ks) =
    ap (λ (n : ℕ). take n (drop i ks)) gap ∙ ap (take (suc (j - (i + 1)))) from_i in
    let rest : drop (j - i) (drop i ks) ≡ drop j ks = drop-drop (j - i) i ks
    ∙ ap (λ (n : ℕ). drop n ks) (omega arith) in
    let split : drop i ks ≡ (get_or ks i no_corner ∷ take (j - (i + 1)) (drop (i + 1) ks))
    ++ (get_or ks j no_corner ∷ drop (j + 1) ks) =
    sym (take-append-drop (j - i) (drop i ks)) ∙ ap (λ (xs : List CornerRec). xs ++ drop (j - i) (drop i ks)) middle
    ∙ ap (λ (xs : List CornerRec). (get_or ks i no_corner ∷ take (j - (i + 1)) (drop (i + 1) ks)) ++ xs) (rest
    ∙ from_j) in
    let short : j - (i + 1) ≤ length (drop (i + 1) ks) = omega (arith, length-drop (i + 1) ks) in
    record {
      before = take i ks;
      first = get_or ks i no_corner;
      between = take (j - (i + 1)) (drop (i + 1) ks);
      second = get_or ks j no_corner;
      later = drop (j + 1) ks;
      is_first = refl;
      is_second = refl;
      whole = sym (take-append-drop i ks) ∙ ap (λ (xs : List CornerRec). take i ks ++ xs) split;
      outer = λ e. ap (λ (xs : List CornerRec). take i ks ++ (along e (get_or ks i no_corner) ∷ xs)) from_j;
      inner = λ e. ap (λ (xs : List CornerRec). xs ++ along e (get_or ks j no_corner) ∷ []) middle;
      count_before = length-take-le i ks (omega arith);
      count_between = let l = length-take-le (j - (i + 1)) (drop (i + 1) ks) short in omega arith;
      count = let l = length-drop (j + 1) ks in omega arith;
    }

-- ---- PLACES THAT AREN'T SIDE BY SIDE

-- two places in order, that are apart both ways round
pub record AreApartPlaces (count i j : ℕ) : Type 0 where
  pub ahead : i + 2 ≤ j
  pub back : j + 2 ≤ count + i
  pub inside : j < count

places : (count i j : ℕ) → i < j → j < count → are_neighbours count i j ≡ false → AreApartPlaces count i j
places count i j below inside none =
    let both = or_parts (eqb (place_after count i) j) (eqb (place_after count j) i) none in
    let next : place_after count i ≡ i + 1 =
    cond-false (eqb (i + 1) count) 0 (i + 1) (ne_eqb (i + 1) count (λ same. absurd (omega arith))) in
    let one : i + 1 ≢ j = λ same. eqb-false (place_after count i) j both.0 (next ∙ same) in
    let two : i ≡ 0 → j + 1 ≢ count =
    λ first last. eqb-false (place_after count j) i both.1
    (cond-true (eqb (j + 1) count) 0 (j + 1) (eq-eqb (j + 1) count last) ∙ sym first) in
    record {
      ahead = omega (arith, one);
      back =
          elim (cases_eq i 0) [ inl first ↦ omega (arith, two first) | inr later ↦ omega (arith, later) ];
      inside =
          inside;
    }

-- ---- A RING CUT IN TWO

-- the two polygons, where the new edge joins the corners at the two places
pub record ArePolygons (d : Complex) (e : EdgeName) (i j : ℕ) (ks : List CornerRec) : Type 0 where
  pub outer : IsPolygon d.edges (outer_part e i j ks)
  pub inner : IsPolygon d.edges (inner_part e i j ks)

pub IsPolygon-cut : (c d : Complex) (e : EdgeName) (x : EdgeRec) (ks : List CornerRec) (i j : ℕ)
    → Extends c.edges d.edges → at d.edges e.0 ≡ Some x → x.a ≡ (get_or ks i no_corner).vert
    → x.b ≡ (get_or ks j no_corner).vert
    → AreApartPlaces (length ks) i j → IsPolygon c.edges ks → ArePolygons d e i j ks
IsPolygon-cut c d e x ks i j more is from to apart polygon =
    let ahead = apart.ahead in
    let back = apart.back in
    let inside = apart.inside in
    let h = cut ks i j (omega arith) inside in
    let at_first : x.a ≡ h.first.vert = from ∙ ap (λ (k : CornerRec). k.vert) (sym h.is_first) in
    let at_second : x.b ≡ h.second.vert = to ∙ ap (λ (k : CornerRec). k.vert) (sym h.is_second) in
    let rest : List CornerRec = h.later ++ h.before in
    let turned_once : IsCircle c.edges ((h.first ∷ (h.between ++ (h.second ∷ h.later))) ++ h.before) =
    IsCircle-turned c.edges h.before (h.first ∷ (h.between ++ (h.second ∷ h.later)))
    (subst (IsCircle c.edges) h.whole (IsCircle-from_polygon c ks polygon)) in
    let circle : IsCircle c.edges (h.first ∷ (h.between ++ (h.second ∷ rest))) =
    subst (λ (xs : List CornerRec). IsCircle c.edges (h.first ∷ xs))
    (append_assoc h.between (h.second ∷ h.later) h.before) turned_once in
    let stays = stay_all c.edges d.edges more (h.first ∷ (h.between ++ (h.second ∷ rest))) h.first.vert circle.closed in
    let Stay : CornerRec → Type 0 = λ l. at d.edges l.edge.0 ≡ at c.edges l.edge.0 in
    let out = IsCircle-outer c.edges d.edges h.first (along e h.first) h.second h.between rest circle refl
    (leads-from d.edges (along e h.first) h.second.vert x is
    (joins-ahead h.first.vert h.second.vert x at_first at_second))
    (All-right Stay (h.first ∷ h.between) (h.second ∷ rest) stays) in
    let round : IsCircle d.edges (h.before ++ (along e h.first ∷ h.second ∷ h.later)) =
    IsCircle-turned d.edges (along e h.first ∷ h.second ∷ h.later) h.before out in
    let inn : IsCircle d.edges (h.first ∷ (h.between ++ (along e h.second ∷ []))) =
    IsCircle-inner c.edges d.edges h.first h.second (along e h.second) h.between rest circle refl
    (leads-from d.edges (along e h.second) h.first.vert x is
    (joins-back h.second.vert h.first.vert x at_first at_second))
    (All-left Stay (h.first ∷ h.between) (h.second ∷ rest) stays) in
    let count_outer = length-append h.before (along e h.first ∷ h.second ∷ h.later) in
    let count_inner = length-append h.between (along e h.second ∷ []) in
    let count_before = h.count_before in
    let count_between = h.count_between in
    let count = h.count in
    let most = polygon.most in
    record {
      outer = subst (IsPolygon d.edges) (sym (h.outer e))
          (IsPolygon-from_circle d (h.before ++ (along e h.first ∷ h.second ∷ h.later)) (omega arith) (omega arith)
          round);
      inner = subst (IsPolygon d.edges) (sym (h.inner e))
          (IsPolygon-from_circle d (h.first ∷ (h.between ++ (along e h.second ∷ []))) (omega arith) (omega arith) inn);
    }

-- each corner of the two polygons was there, along its edge or another
pub record AreAll (P : CornerRec → Type 0) (e : EdgeName) (i j : ℕ) (ks : List CornerRec) : Type 0 where
  pub outer : All P (outer_part e i j ks)
  pub inner : All P (inner_part e i j ks)

pub All-cut : (P : CornerRec → Type 0) → ((e : EdgeName) (k : CornerRec) → P k → P (along e k))
    → (e : EdgeName) (ks : List CornerRec) (i j : ℕ) → i < j → j < length ks → All P ks → AreAll P e i j ks
All-cut P own e ks i j below inside all =
    let h = cut ks i j below inside in
    let whole = subst (All P) h.whole all in
    let before = All-left P h.before (h.first ∷ (h.between ++ (h.second ∷ h.later))) whole in
    let from_first = All-right P h.before (h.first ∷ (h.between ++ (h.second ∷ h.later))) whole in
    let first = All-head P h.first (h.between ++ (h.second ∷ h.later)) from_first in
    let after_first = All-tail P h.first (h.between ++ (h.second ∷ h.later)) from_first in
    let between = All-left P h.between (h.second ∷ h.later) after_first in
    let from_second = All-right P h.between (h.second ∷ h.later) after_first in
    record {
      outer = subst (All P) (sym (h.outer e))
          (All-append P h.before (along e h.first ∷ h.second ∷ h.later) before
          (All-cons P (along e h.first) (h.second ∷ h.later) (own e h.first first) from_second));
      inner = subst (All P) (sym (h.inner e)) (All-cons P h.first (h.between ++ (along e h.second ∷ [])) first
          (All-append P h.between (along e h.second ∷ []) between
          (All-cons P (along e h.second) [] (own e h.second (All-head P h.second h.later from_second))
          (All-nil P))));
    }

-- ---- THE COMPLEX

-- what is known where a face is split between two places
pub record IsCut (c : Complex) (f : FaceName) (i j : ℕ) : Type 0 where
  pub right : AreRight c
  pub there : has c (Face f) ≡ true
  pub apart : AreApartPlaces (length (face_rec c f).corners) i j

abbrev cut_at : Complex → FaceName → ℕ → ℕ → Complex
cut_at c f i j = (split_face_between c f i j).0

-- the new edge
abbrev pub cutting_edge : Complex → FaceName → ℕ → ℕ → EdgeRec
cutting_edge c f i j =
    edge_from_to c (get_or (face_rec c f).corners i no_corner).vert (get_or (face_rec c f).corners j no_corner).vert

same_layers : (c : Complex) (f : FaceName) (i j : ℕ) → HasSameLayers (cut_at c f i j) c
same_layers c f i j = record { layers = refl; materials = refl }

-- a corner's vertex is there
corner-there : (c : Complex) → AreRight c → (ks : List CornerRec) → IsPolygon c.edges ks → (i : ℕ) → i < length ks
    → IsThere c.verts (get_or ks i no_corner).vert.0
corner-there c right ks polygon i less =
    let circle = IsCircle-from_polygon c ks polygon in
    end-there c right.edges (get_or ks i no_corner).edge.0 (get_or ks i no_corner).vert
    (path-has_ends c.edges ks (start_of ks nowhere) circle.closed i no_corner less)

-- the vertices at two places differ
corners-differ : (ks : List CornerRec) (i j : ℕ) → i < j → j < length ks → are_distinct (verts_of ks) ≡ true
    → (get_or ks i no_corner).vert.0 ≢ (get_or ks j no_corner).vert.0
corners-differ ks i j below inside distinct same =
    let vert_of : CornerRec → VertName = λ k. k.vert in
    let count = length-map ks (λ (k : CornerRec). k.vert) in
    let at_i = ap (λ (v : VertName). v.0) (get_or-map (λ (k : CornerRec). k.vert) ks i no_corner nowhere (omega arith))
    in
    let at_j = ap (λ (v : VertName). v.0) (get_or-map (λ (k : CornerRec). k.vert) ks j no_corner nowhere inside) in
    absurd (omega (
      arith,
      distinct-at (verts_of ks) distinct i j nowhere (omega arith) (omega arith) (at_i ∙ same
          ∙ sym at_j),
    ))

IsEdgeRight-cutting : (c : Complex) (f : FaceName) (i j : ℕ) → IsCut c f i j
    → IsEdgeRight (split_face_between c f i j).0 (cutting_edge c f i j)
IsEdgeRight-cutting c f i j s =
    let ks = (face_rec c f).corners in
    let right = s.right.faces f.0 (face_rec c f) (at-face_rec c f s.there) in
    let ahead = s.apart.ahead in
    let inside = s.apart.inside in
    record {
      linked = record {
        a = corner-there c s.right (face_rec c f).corners right.polygon i (omega arith);
        b = corner-there c s.right (face_rec c f).corners right.polygon j inside;
        differ = corners-differ (face_rec c f).corners i j (omega arith) inside right.polygon.distinct;
        vals = length-zeros (width c Edges);
      };
      valid = record { vals = in_range-zeros (width c Edges) };
    }

pub AreRight-split_face_between : (c : Complex) (f : FaceName) (i j : ℕ) → IsCut c f i j
    → AreRight (split_face_between c f i j).0
AreRight-split_face_between c f i j s =
    let d = cut_at c f i j in
    let r : FaceRec = face_rec c f in
    let e : EdgeName = next_edge c in
    let ahead = s.apart.ahead in
    let inside = s.apart.inside in
    let right = s.right.faces f.0 (face_rec c f) (at-face_rec c f s.there) in
    let more : Extends c.edges d.edges = Extends-append c.edges (Some (cutting_edge c f i j) ∷ []) in
    let polygons = IsPolygon-cut c (cut_at c f i j) (next_edge c) (cutting_edge c f i j) (face_rec c f).corners i j more
    (at-append_new c.edges (cutting_edge c f i j)) refl refl s.apart right.polygon in
    let vals = All-cut (HasVals c) (λ g k has_vals. has_vals) (next_edge c) (face_rec c f).corners i j (omega arith)
    inside right.corners in
    let outer = face-with d c (same_layers c f i j) (face_rec c f) (outer_part (next_edge c) i j (face_rec c f).corners)
    polygons.outer (HasVals-same d c (same_layers c f i j) (outer_part (next_edge c) i j (face_rec c f).corners)
    vals.outer) right in
    let inner = face-with d c (same_layers c f i j) (face_rec c f) (inner_part (next_edge c) i j (face_rec c f).corners)
    polygons.inner (HasVals-same d c (same_layers c f i j) (inner_part (next_edge c) i j (face_rec c f).corners)
    vals.inner) right in
    record {
      layers = s.right.layers;
      verts = λ n x is. IsVertRight-same d c (same_layers c f i j) x (s.right.verts n x is);
      edges = λ n x is. elim (at-append c.edges (cutting_edge c f i j) x n is) [
        | inl old ↦ let was = s.right.edges n x old in
            IsEdgeRight-same d c (same_layers c f i j) x x refl was.linked.a was.linked.b was.linked.differ was
        | inr new ↦ subst (IsEdgeRight d) (sym new.1) (IsEdgeRight-cutting c f i j s)
      ];
      faces = λ n x is. elim
          (at-append (update c.faces f.0 (λ (y : FaceRec). record y {
            corners =
                outer_part (next_edge c) i j y.corners;
          })) (record (face_rec c f) {
            corners =
                inner_part (next_edge c) i j (face_rec c f).corners;
          }) x n is) [
            | inl old ↦ elim (was-updated c.faces f.0 n (λ (y : FaceRec). record y {
              corners =
                  outer_part (next_edge c) i j y.corners;
            }) x old) [
              | inl before ↦ face-same d c (same_layers c f i j) x
                  (IsPolygon-Extends d c more x.corners (s.right.faces n x before).polygon) (s.right.faces n x before)
              | inr new ↦
                  let same : new.1.0 ≡ face_rec c f = let known = at-face_rec c f s.there in let stood = new.1.1 in
                  let at_f = ap (at c.faces) new.0 in cc in
                  subst (IsFaceRight d) (sym (new.1.2
                  ∙ ap (λ (y : FaceRec). let z : FaceRec =
                  record y { corners = outer_part (next_edge c) i j y.corners } in
                  z) same)) outer
            ]
            | inr new ↦ subst (IsFaceRight d) (sym new.1) inner
          ];
    }

places_either : (count i j : ℕ) → i < count → j < count → i ≢ j → are_neighbours count i j ≡ false
    → AreApartPlaces count (min i j) (max i j)
places_either count i j in_i in_j other none = elim (cases_order i j) [
  | inl same ↦ absurd (other same)
  | inr (inl below) ↦ let lo : min i j ≡ i = omega arith in let hi : max i j ≡ j = omega arith in
      rw (lo, hi) (places count i j below in_j none)
  | inr (inr above) ↦
      let lo : min i j ≡ j = omega arith in
      let hi : max i j ≡ i = omega arith in
      let both = or_parts (eqb (place_after count i) j) (eqb (place_after count j) i) none in
      rw (lo, hi) (places count j i above in_i
      (or_from (eqb (place_after count j) i) (eqb (place_after count i) j) both.1 both.0))
]

-- what the test tells that answers None
pub IsCut-from_test : (c : Complex) (f : FaceName) (i j : ℕ) → split_face_refusal c f i j ≡ None → AreRight c
    → IsCut c f (min i j) (max i j) × IsWithinLimits (split_face c f i j).0
IsCut-from_test c f i j test right =
    let count : ℕ = length (face_rec c f).corners in
    let one = first_of-none (unless_there c (Face f)) _ test in
    let two = first_of-none
    (unless (ltb i (length (face_rec c f).corners) && (ltb j (length (face_rec c f).corners) && not (eqb i j)))
    BadValue) _ one.1 in
    let three = first_of-none (unless (not (are_neighbours (length (face_rec c f).corners) i j)) Adjacent) _ two.1 in
    let four = first_of-none (unless_too_many (split_face c f i j).0) _ three.1 in
    let given = unless-none (ltb i (length (face_rec c f).corners)
    && (ltb j (length (face_rec c f).corners) && not (eqb i j))) BadValue two.0 in
    let first = and_parts (ltb i (length (face_rec c f).corners)) (ltb j (length (face_rec c f).corners)
    && not (eqb i j)) given in
    let second = and_parts (ltb j (length (face_rec c f).corners)) (not (eqb i j)) first.1 in
    let none = not-true (are_neighbours (length (face_rec c f).corners) i j)
    (unless-none (not (are_neighbours (length (face_rec c f).corners) i j)) Adjacent three.0) in (
      record {
        right = right;
        there = there-none c (Face f) one.0;
        apart = places_either (length (face_rec c f).corners) i j (ltb-true i (length (face_rec c f).corners) first.0)
            (ltb-true j (length (face_rec c f).corners) second.0) (eqb-false i j (not-true (eqb i j) second.1)) none;
      },
      limits-none (split_face c f i j).0 four.0,
    )

pub IsValid-split_face : (c : Complex) (f : FaceName) (i j : ℕ) → split_face_refusal c f i j ≡ None → IsValid c
    → IsValid (split_face c f i j).0
IsValid-split_face c f i j test h =
    let told = IsCut-from_test c f i j test (AreRight-from_valid c h) in
    IsValid-from_right (split_face c f i j).0 (AreRight-split_face_between c f (min i j) (max i j) told.0) told.1

-- no two edges with the same ends, where none joined the two vertices
pub IsSimple-split_face : (c : Complex) (f : FaceName) (i j : ℕ)
    → JoinsNone c.edges (corner_rec c f (min i j)).vert (corner_rec c f (max i j)).vert → IsSimple c
    → IsSimple (split_face c f i j).0
IsSimple-split_face c f i j none h = IsSimple-with_edge c (cutting_edge c f (min i j) (max i j)) none h

pub IsSound-split_face : (c : Complex) (f : FaceName) (i j : ℕ) → split_face_refusal c f i j ≡ None
    → JoinsNone c.edges (corner_rec c f (min i j)).vert (corner_rec c f (max i j)).vert → IsSound c
    → IsSound (split_face c f i j).0
IsSound-split_face c f i j test none h =
    record { valid = IsValid-split_face c f i j test h.valid; simple = IsSimple-split_face c f i j none h.simple }

-- ---- COUNTERS

-- the two parts have two corners more than the polygon
length-cut : (e : EdgeName) (ks : List CornerRec) (i j : ℕ) → i < j → j < length ks
    → length (outer_part e i j ks) + length (inner_part e i j ks) ≡ length ks + 2
length-cut e ks i j below inside =
    let h = cut ks i j below inside in
    let count_before = h.count_before in
    let count_between = h.count_between in
    let count = h.count in
    let outer = ap length (h.outer e) ∙ length-append h.before (along e h.first ∷ h.second ∷ h.later) in
    let inner = ap length (h.inner e) ∙ ap (λ (n : ℕ). suc n) (length-append h.between (along e h.second ∷ [])) in
    omega arith

-- one edge, one face and two corners more
pub record IsCountedCut (c d : Complex) : Type 0 where
  pub verts : length d.verts ≡ length c.verts
  pub edges : length d.edges ≡ length c.edges + 1
  pub faces : length d.faces ≡ length c.faces + 1
  pub corners : corner_sum d.faces ≡ corner_sum c.faces + 2

pub counters-split_face_between : (c : Complex) (f : FaceName) (i j : ℕ) → IsCut c f i j
    → IsCountedCut c (split_face_between c f i j).0
counters-split_face_between c f i j s =
    let outer : FaceRec → FaceRec = λ x. record x { corners = outer_part (next_edge c) i j x.corners } in
    let ahead = s.apart.ahead in
    let both = length-cut (next_edge c) (face_rec c f).corners i j (omega arith) s.apart.inside in
    let changed_sum = corner_sum-update c.faces f.0 (λ (x : FaceRec). record x {
      corners =
          outer_part (next_edge c) i j x.corners;
    }) (face_rec c f) (at-face_rec c f s.there) in
    let pushed = corner_sum-push
    (update c.faces f.0 (λ (x : FaceRec). record x { corners = outer_part (next_edge c) i j x.corners }))
    (record (face_rec c f) { corners = inner_part (next_edge c) i j (face_rec c f).corners }) in
    record {
      verts = refl;
      edges = length_push c.edges (Some (cutting_edge c f i j));
      faces = length_push
          (update c.faces f.0 (λ (x : FaceRec). record x { corners = outer_part (next_edge c) i j x.corners })) _
          ∙ ap (λ (n : ℕ). n + 1)
          (length-update c.faces f.0 (λ (x : FaceRec). record x { corners = outer_part (next_edge c) i j x.corners }));
      corners = pushed ∙ omega arith;
    }

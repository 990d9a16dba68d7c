-- Two faces joined at an edge: the complex stays valid and simple.
use Rattle.std.proofs.Common.{◌≡◌, ◌≢◌, ℕ, suc, ◌+◌, ◌≤◌, Bool, true, false, not, cond, ◌&&◌, ◌||◌, eqb, leb, ℤ, List}
use Rattle.std.proofs.Common.{[], ◌∷◌, ◌++◌, length, refl, sym, ap, ◌∙◌, subst, inl, inr, arith, Option, Some, None}
use Rattle.std.proofs.Common.{true≢false}
use Rattle.std.specs.Option.{option_map}
use Rattle.std.specs.List.{All, list_any, filter, flat_map, before_first, after_first}
use Rattle.std.proofs.lemmas.List.{length-append, append_assoc}
use Rattle.std.proofs.lemmas.List.Concat.{flat_map-append}
use Rattle.std.proofs.lemmas.List.Folds.{list_any-append}
use Rattle.std.proofs.lemmas.List.Elements.{All-cons, All-append, All-head, All-tail}
use Rattle.std.proofs.lemmas.Bool.{cases_eq, cases_Bool, or_parts, or_cases, or_left, or_right, and_parts, cond-true}
use Rattle.std.proofs.lemmas.Bool.{cond-false, not-true, not-false, eq-eqb, eqb-true, eqb-false, leb-true}
use Rattle.std.proofs.lemmas.Bool.{false_from_ne_true}
use Rattle.mesh_model.specs.Table.{at, update, erase}
use Rattle.mesh_model.specs.Complex.{Complex, has, verts_of, corner_sum}
use Rattle.mesh_model.specs.Incidence.{joins, has_end, is_along, uses_edge, corners_at_edge}
use Rattle.mesh_model.specs.Elements.{is_among}
use Rattle.mesh_model.specs.Valid.{IsPolygon, IsValid, IsSimple, IsSound}
use Rattle.mesh_model.specs.Lookups.{edge_rec, face_rec, no_corner}
use Rattle.mesh_model.specs.Refusals.{unless_at, unless_there}
use Rattle.mesh_model.specs.Euler.{round_from, with_first_vals, fused, join_face, starts_along, run_same_way}
use Rattle.mesh_model.specs.Euler.{share_other_vert, join_face_refusal}
use Rattle.mesh_model.specs.declared.limits.TheConstants.{MAX_SIDES}
use Rattle.mesh_model.specs.declared.names.Elem.TheVariants.{Edge, Face}
use Rattle.mesh_model.specs.declared.names.VertName.{VertName}
use Rattle.mesh_model.specs.declared.names.EdgeName.{EdgeName}
use Rattle.mesh_model.specs.declared.names.FaceName.{FaceName}
use Rattle.mesh_model.specs.declared.refusal.Why.TheVariants.{Apart, NonManifold, Winding, Pinched, TooLong}
use Rattle.mesh_model.specs.declared.records.EdgeRec.{EdgeRec}
use Rattle.mesh_model.specs.declared.records.CornerRec.{CornerRec}
use Rattle.mesh_model.specs.declared.records.FaceRec.{FaceRec}
use Rattle.mesh_model.proofs.Tables.{at-erase_other, was-erased, at-update, at-update_other, length-erase}
use Rattle.mesh_model.proofs.Tables.{length-update}
use Rattle.mesh_model.proofs.Edges.{joins-cases}
use Rattle.mesh_model.proofs.Parts.{IsSimple-part}
use Rattle.mesh_model.proofs.CornerSums.{corner_sum-update}
use Rattle.mesh_model.proofs.CornersAt.{three_along, at_first, corner_sum-erase}
use Rattle.mesh_model.proofs.Distinct.{AreApart, distinct-uncons, is_among-append, is_among-same}
use Rattle.mesh_model.proofs.Paths.{start_of, path-uncons, path-same, nowhere, verts-append, IsCircle}
use Rattle.mesh_model.proofs.Paths.{IsCircle-from_polygon, IsCircle-turned, IsPolygon-from_circle}
use Rattle.mesh_model.proofs.Circles.{leads-joins, alone_along, stay_along, IsCircle-fused}
use Rattle.mesh_model.proofs.Walks.{All-left, All-right}
use Rattle.mesh_model.proofs.Looking.{at-edge_rec, at-face_rec}
use Rattle.mesh_model.proofs.EdgeJoins.{HasSameNames}
use Rattle.mesh_model.proofs.Refusing.{first_of-none, unless_at-none, there-none}
use Rattle.mesh_model.proofs.Right.{AreRight, IsFaceRight, HasSameLayers, HasVals, IsVertRight-same, IsEdgeRight-same}
use Rattle.mesh_model.proofs.Right.{HasVals-same, face-same, face-with, AreRight-from_valid, IsValid-from_right}

-- what is known where two faces are joined
pub record IsFusion (c : Complex) (f g : FaceName) (e : EdgeName) : Type 0 where
  pub right : AreRight c
  pub first : has c (Face f) ≡ true
  pub second : has c (Face g) ≡ true
  pub there : has c (Edge e) ≡ true
  pub differ : f.0 ≢ g.0
  pub along_first : uses_edge e (face_rec c f) ≡ true
  pub along_second : uses_edge e (face_rec c g) ≡ true
  pub only : (n : ℕ) (h : FaceRec) → at c.faces n ≡ Some h → n ≢ f.0 → n ≢ g.0 → uses_edge e h ≡ false
  pub opposite : run_same_way e (face_rec c f).corners (face_rec c g).corners ≡ false
  pub apart : share_other_vert (edge_rec c e) (face_rec c f).corners (face_rec c g).corners ≡ false
  pub room : length (face_rec c f).corners + length (face_rec c g).corners ≤ MAX_SIDES + 2

-- ---- CORNERS IN THE PLACE OF ONE

abbrev in_place : EdgeName → List CornerRec → CornerRec → List CornerRec
in_place e others k = cond (is_along e k) (with_first_vals k.vals (round_from e others)) (k ∷ [])

in_place-kept : (e : EdgeName) (others ks : List CornerRec) → list_any (is_along e) ks ≡ false
    → flat_map (in_place e others) ks ≡ ks
in_place-kept e others [] none = refl
in_place-kept e others (k ∷ ks) none =
    let both = or_parts (is_along e k) (list_any (is_along e) ks) none in
    ap (λ (xs : List CornerRec). xs ++ flat_map (in_place e others) ks)
    (cond-false (is_along e k) (with_first_vals k.vals (round_from e others)) (k ∷ []) both.0)
    ∙ ap (λ (xs : List CornerRec). k ∷ xs) (in_place-kept e others ks both.1)

in_place-around : (e : EdgeName) (others before later : List CornerRec) (k : CornerRec) → is_along e k ≡ true
    → list_any (is_along e) before ≡ false → list_any (is_along e) later ≡ false
    → flat_map (in_place e others) (before ++ k ∷ later)
    ≡ before ++ (with_first_vals k.vals (round_from e others) ++ later)
in_place-around e others before later k here none_before none_later =
    flat_map-append (in_place e others) before (k ∷ later)
    ∙ ap (λ (xs : List CornerRec). xs ++ (in_place e others k ++ flat_map (in_place e others) later))
    (in_place-kept e others before none_before)
    ∙ ap (λ (xs : List CornerRec). before ++ (xs ++ flat_map (in_place e others) later))
    (cond-true (is_along e k) (with_first_vals k.vals (round_from e others)) (k ∷ []) here)
    ∙ ap (λ (xs : List CornerRec). before ++ (with_first_vals k.vals (round_from e others) ++ xs))
    (in_place-kept e others later none_later)

-- other values change no circle
first_vals-circle : (edges : List (Option EdgeRec)) (vals : List ℤ) (ls ks : List CornerRec) → IsCircle edges (ls ++ ks)
    → IsCircle edges (with_first_vals vals ls ++ ks)
first_vals-circle edges vals [] ks h = h
first_vals-circle edges vals (l ∷ ls) ks h = record { distinct = h.distinct; closed = h.closed }

first_vals-length : (vals : List ℤ) (ls : List CornerRec) → length (with_first_vals vals ls) ≡ length ls
first_vals-length vals [] = refl
first_vals-length vals (l ∷ ls) = refl

first_vals-all : (c : Complex) (k : CornerRec) (ls : List CornerRec) → HasVals c k → All (HasVals c) ls
    → All (HasVals c) (with_first_vals k.vals ls)
first_vals-all c k [] has all = all
first_vals-all c k (l ∷ ls) has all =
    All-cons (HasVals c) (record l { vals = k.vals }) ls has (All-tail (HasVals c) l ls all)

-- ---- THE TWO RINGS

-- a polygon read from its corner along the edge on
record Opened (c : Complex) (e : EdgeName) (ks : List CornerRec) : Type 0 where
  before : List CornerRec
  here : CornerRec
  later : List CornerRec
  parts : ks ≡ before ++ here ∷ later
  is_before : before ≡ before_first (is_along e) ks
  is_later : later ≡ after_first (is_along e) ks
  passes : is_along e here ≡ true
  circle : IsCircle c.edges (here ∷ (later ++ before))
  none : list_any (is_along e) (later ++ before) ≡ false
  count : length ks ≡ suc (length (later ++ before))
  long : 2 ≤ length (later ++ before)

opened : (c : Complex) (e : EdgeName) → has c (Edge e) ≡ true → (ks : List CornerRec) → IsPolygon c.edges ks
    → list_any (is_along e) ks ≡ true → Opened c e ks
opened c e there ks polygon uses =
    let p : CornerRec → Bool = is_along e in
    let fd = at_first (is_along e) ks no_corner uses in
    let before : List CornerRec = before_first (is_along e) ks in
    let later : List CornerRec = after_first (is_along e) ks in
    let circle : IsCircle c.edges (fd.here ∷ (after_first (is_along e) ks ++ before_first (is_along e) ks)) =
    IsCircle-turned c.edges (before_first (is_along e) ks) (fd.here ∷ after_first (is_along e) ks)
    (subst (IsCircle c.edges) fd.parts (IsCircle-from_polygon c ks polygon)) in
    let count : length ks ≡ suc (length (after_first (is_along e) ks ++ before_first (is_along e) ks)) =
    ap (λ (xs : List CornerRec). length xs) fd.parts
    ∙ omega (
      arith,
      length-append (before_first (is_along e) ks) (fd.here ∷ after_first (is_along e) ks),
      length-append (after_first (is_along e) ks) (before_first (is_along e) ks),
    ) in
    let least = polygon.least in
    let long : 2 ≤ length (after_first (is_along e) ks ++ before_first (is_along e) ks) = omega arith in
    let same : fd.here.edge.0 ≡ e.0 = eqb-true fd.here.edge.0 e.0 fd.passes in
    let none = ap (λ (n : ℕ). list_any (λ (l : CornerRec). eqb l.edge.0 n) (after_first (is_along e) ks
    ++ before_first (is_along e) ks)) (sym same)
    ∙ alone_along c.edges fd.here (after_first (is_along e) ks ++ before_first (is_along e) ks) (edge_rec c e) long
    (ap (at c.edges) same ∙ at-edge_rec c e there) circle in
    record {
      before = before_first (is_along e) ks;
      here = fd.here;
      later = after_first (is_along e) ks;
      parts =
          fd.parts;
      is_before = refl;
      is_later = refl;
      passes = fd.passes;
      circle = circle;
      none = none;
      count = count;
      long = long;
    }

-- a corner along an edge begins there
starts : (e : EdgeName) (before later : List CornerRec) (k : CornerRec) → is_along e k ≡ true
    → is_among (verts_of (filter (is_along e) (before ++ k ∷ later))) k.vert ≡ true
starts e [] later k here =
    rw here (or_left (eqb k.vert.0 k.vert.0) (is_among (verts_of (filter (is_along e) later)) k.vert)
    (eq-eqb k.vert.0 k.vert.0 refl))
starts e (b ∷ bs) later k here = elim (cases_Bool (is_along e b)) [
  | inl runs ↦ rw runs
      (or_right (eqb b.vert.0 k.vert.0) (is_among (verts_of (filter (is_along e) (bs ++ k ∷ later))) k.vert)
      (starts e bs later k here))
  | inr past ↦ rw past (starts e bs later k here)
]

-- where no corner of the second is at such a vertex
same_way : (vs ws : List VertName) (u : VertName) → list_any (is_among vs) ws ≡ false → is_among ws u ≡ true
    → is_among vs u ≡ false
same_way vs [] u none in_ws = absurd (cc)
same_way vs (w ∷ ws) u none in_ws =
    let both = or_parts (is_among vs w) (list_any (is_among vs) ws) none in
    elim (or_cases (eqb w.0 u.0) (is_among ws u) in_ws) [
      | inl here ↦ sym (is_among-same vs w u here) ∙ both.0
      | inr later ↦ same_way vs ws u both.1 later
    ]

-- a vertex that two polygons share is an end of the edge
shared_end : (r : EdgeRec) (corners others : List CornerRec) (u : VertName) → share_other_vert r corners others ≡ false
    → is_among (verts_of others) u ≡ true → is_among (verts_of corners) u ≡ true → has_end u r ≡ true
shared_end r corners [] u none in_others in_corners = absurd (cc)
shared_end r corners (k ∷ ks) u none in_others in_corners =
    let both = or_parts (is_among (verts_of corners) k.vert && not (has_end k.vert r)) (share_other_vert r corners ks)
    none in
    elim (or_cases (eqb k.vert.0 u.0) (is_among (verts_of ks) u) in_others) [
      | inl here ↦
          let at_k : is_among (verts_of corners) k.vert ≡ true = is_among-same (verts_of corners) k.vert u here
          ∙ in_corners in
          let ends : has_end k.vert r ≡ true =
          not-false (has_end k.vert r) (sym (ap (λ (b : Bool). b && not (has_end k.vert r)) at_k) ∙ both.0) in
          sym (ap (λ (n : ℕ). eqb r.a.0 n || eqb r.b.0 n) (eqb-true k.vert.0 u.0 here)) ∙ ends
      | inr later ↦ shared_end r corners ks u both.1 later in_corners
    ]

in_whole : (before later : List CornerRec) (k : CornerRec) (u : VertName)
    → is_among (verts_of (later ++ before)) u ≡ true → is_among (verts_of (before ++ k ∷ later)) u ≡ true
in_whole before later k u h =
    ap (λ (vs : List VertName). is_among vs u) (verts-append before (k ∷ later))
    ∙ is_among-append (verts_of before) (verts_of (k ∷ later)) u
    ∙ elim (or_cases (is_among (verts_of later) u) (is_among (verts_of before) u)
    (sym (ap (λ (vs : List VertName). is_among vs u) (verts-append later before)
    ∙ is_among-append (verts_of later) (verts_of before) u) ∙ h)) [
      | inl in_later ↦ or_right (is_among (verts_of before) u) (is_among (verts_of (k ∷ later)) u)
          (or_right (eqb k.vert.0 u.0) (is_among (verts_of later) u) in_later)
      | inr in_before ↦ or_left (is_among (verts_of before) u) (is_among (verts_of (k ∷ later)) u) in_before
    ]

-- an edge from one vertex and from another leads to the other one
meet_ends : (k l y z : VertName) (r : EdgeRec) → k.0 ≢ l.0 → joins k y r ≡ true → joins l z r ≡ true → (y ≡ l) × (z ≡ k)
meet_ends k l y z r other from_k from_l = elim (joins-cases k y r from_k) [
  | inl ahead ↦ elim (joins-cases l z r from_l) [
    | inl same ↦ absurd (other (ap (λ (u : VertName). u.0) (sym ahead.0 ∙ same.0)))
    | inr back ↦ (sym ahead.1 ∙ back.1, sym back.0 ∙ ahead.0)
  ]
  | inr back ↦ elim (joins-cases l z r from_l) [
    | inl ahead ↦ (sym back.0 ∙ ahead.0, sym ahead.1 ∙ back.1)
    | inr same ↦ absurd (other (ap (λ (u : VertName). u.0) (sym back.1 ∙ same.1)))
  ]
]

abbrev after : Complex → FaceName → FaceName → EdgeName → Complex
after c f g e = join_face c f g e

same_layers : (c : Complex) (f g : FaceName) (e : EdgeName) → HasSameLayers (after c f g e) c
same_layers c f g e = record { layers = refl; materials = refl }

others_stay : (c : Complex) (e : EdgeName) (n : ℕ) (x : EdgeRec) → at c.edges n ≡ Some x → n ≢ e.0
    → at (erase c.edges e.0) n ≡ Some x
others_stay c e n x is other = at-erase_other c.edges e.0 n (λ same. other (sym same)) ∙ is

-- the corners of the fused face
abbrev fused_corners : Complex → FaceName → FaceName → EdgeName → List CornerRec
fused_corners c f g e = flat_map (in_place e (face_rec c g).corners) (face_rec c f).corners

record IsFused (c : Complex) (f g : FaceName) (e : EdgeName) : Type 0 where
  polygon : IsPolygon (after c f g e).edges (fused_corners c f g e)
  vals : All (HasVals c) (fused_corners c f g e)
  count : length (fused_corners c f g e) + 2 ≡ length (face_rec c f).corners + length (face_rec c g).corners

is_fused : (c : Complex) (f g : FaceName) (e : EdgeName) → IsFusion c f g e → IsFused c f g e
is_fused c f g e s =
    let d = after c f g e in
    let r : EdgeRec = edge_rec c e in
    let corners : List CornerRec = (face_rec c f).corners in
    let others : List CornerRec = (face_rec c g).corners in
    let right_f = s.right.faces f.0 (face_rec c f) (at-face_rec c f s.first) in
    let right_g = s.right.faces g.0 (face_rec c g) (at-face_rec c g s.second) in
    let one = opened c e s.there (face_rec c f).corners right_f.polygon s.along_first in
    let two = opened c e s.there (face_rec c g).corners right_g.polygon s.along_second in
    let k : CornerRec = one.here in
    let l : CornerRec = two.here in
    let ks : List CornerRec = one.later ++ one.before in
    let ls : List CornerRec = two.later ++ two.before in
    let is = at-edge_rec c e s.there in
    let path_k = path-uncons c.edges one.here (one.later ++ one.before) one.here.vert one.circle.closed in
    let path_l = path-uncons c.edges two.here (two.later ++ two.before) two.here.vert two.circle.closed in
    let joins_k = leads-joins c.edges one.here (start_of (one.later ++ one.before) one.here.vert) e (edge_rec c e)
    one.passes is path_k.0 in
    let joins_l = leads-joins c.edges two.here (start_of (two.later ++ two.before) two.here.vert) e (edge_rec c e)
    two.passes is path_l.0 in
    let starts_k : is_among (starts_along e corners) k.vert ≡ true =
    ap (λ (xs : List CornerRec). is_among (verts_of (filter (is_along e) xs)) one.here.vert) one.parts
    ∙ starts e one.before one.later one.here one.passes in
    let starts_l : is_among (starts_along e others) l.vert ≡ true =
    ap (λ (xs : List CornerRec). is_among (verts_of (filter (is_along e) xs)) two.here.vert) two.parts
    ∙ starts e two.before two.later two.here two.passes in
    let other_way = same_way (starts_along e corners) (starts_along e others) l.vert s.opposite starts_l in
    let apart_ends : k.vert.0 ≢ l.vert.0 =
    λ same. true≢false (sym starts_k
    ∙ is_among-same (starts_along e corners) k.vert l.vert (eq-eqb k.vert.0 l.vert.0 same) ∙ other_way) in
    let meets = meet_ends k.vert l.vert (start_of ks k.vert) (start_of ls l.vert) (edge_rec c e)
    apart_ends joins_k joins_l in
    let joined : joins k.vert l.vert (edge_rec c e) ≡ true =
    ap (λ (u : VertName). joins k.vert u (edge_rec c e)) (sym meets.0) ∙ joins_k in
    let out_k = (distinct-uncons k.vert (verts_of ks) one.circle.distinct).0 in
    let out_l = (distinct-uncons l.vert (verts_of ls) two.circle.distinct).0 in
    let apart : AreApart (verts_of ls) (verts_of ks) = λ u in_ls in_ks.
    let in_others = ap (λ (xs : List CornerRec). is_among (verts_of xs) u) two.parts
    ∙ in_whole two.before two.later two.here u in_ls in
    let in_corners = ap (λ (xs : List CornerRec). is_among (verts_of xs) u) one.parts
    ∙ in_whole one.before one.later one.here u in_ks in
    let not_k : k.vert.0 ≢ u.0 =
    λ same. true≢false (sym in_ks ∙ sym (is_among-same (verts_of ks) k.vert u (eq-eqb k.vert.0 u.0 same))
    ∙ out_k) in
    let not_l : l.vert.0 ≢ u.0 =
    λ same. true≢false (sym in_ls ∙ sym (is_among-same (verts_of ls) l.vert u (eq-eqb l.vert.0 u.0 same))
    ∙ out_l) in
    neither_vert (edge_rec c e) k.vert l.vert u joined not_k not_l
    (shared_end (edge_rec c e) corners others u s.apart in_others in_corners) in
    let stay_k = stay_along c.edges (erase c.edges e.0) e (others_stay c e) ks k.vert path_k.1 one.none in
    let stay_l = stay_along c.edges (erase c.edges e.0) e (others_stay c e) ls l.vert path_l.1 two.none in
    let long_k = one.long in
    let long_l = two.long in
    let fusion = IsCircle-fused c.edges (erase c.edges e.0) k l ks ls one.circle two.circle meets.0 meets.1 apart
    (omega arith) stay_k stay_l in
    let with_vals = first_vals-circle (erase c.edges e.0) k.vals ls ks fusion in
    let open_once : IsCircle (erase c.edges e.0) ((with_first_vals k.vals ls ++ one.later) ++ one.before) =
    subst (IsCircle (erase c.edges e.0)) (sym (append_assoc (with_first_vals k.vals ls) one.later one.before))
    with_vals in
    let circle : IsCircle (erase c.edges e.0) (one.before ++ (with_first_vals k.vals ls ++ one.later)) =
    IsCircle-turned (erase c.edges e.0) (with_first_vals k.vals ls ++ one.later) one.before open_once in
    let none = or_parts (list_any (is_along e) one.later) (list_any (is_along e) one.before)
    (sym (list_any-append (is_along e) one.later one.before) ∙ one.none) in
    let round_is : round_from e others ≡ ls =
    ap (λ (xs : List CornerRec). xs ++ before_first (is_along e) others) (sym two.is_later)
    ∙ ap (λ (xs : List CornerRec). two.later ++ xs) (sym two.is_before) in
    let image : fused_corners c f g e ≡ one.before ++ (with_first_vals k.vals ls ++ one.later) =
    ap (flat_map (in_place e others)) one.parts
    ∙ in_place-around e others one.before one.later one.here one.passes none.1 none.0
    ∙ ap (λ (xs : List CornerRec). one.before ++ (with_first_vals k.vals xs ++ one.later)) round_is in
    let count_k = one.count in
    let count_l = two.count in
    let sum : length (one.before ++ (with_first_vals k.vals ls ++ one.later)) + 2 ≡ length corners + length others =
    omega (
      arith,
      length-append one.before (with_first_vals k.vals ls ++ one.later),
      length-append (with_first_vals k.vals ls) one.later,
      first_vals-length k.vals ls,
      length-append one.later one.before,
    ) in
    let room = s.room in
    let all_k = subst (All (HasVals c)) one.parts right_f.corners in
    let all_l = subst (All (HasVals c)) two.parts right_g.corners in
    let before_k = All-left (HasVals c) one.before (one.here ∷ one.later) all_k in
    let from_k = All-right (HasVals c) one.before (one.here ∷ one.later) all_k in
    let from_l = All-right (HasVals c) two.before (two.here ∷ two.later) all_l in
    let all_ls = All-append (HasVals c) two.later two.before (All-tail (HasVals c) two.here two.later from_l)
    (All-left (HasVals c) two.before (two.here ∷ two.later) all_l) in
    let all : All (HasVals c) (one.before ++ (with_first_vals k.vals ls ++ one.later)) =
    All-append (HasVals c) one.before (with_first_vals k.vals ls ++ one.later) before_k
    (All-append (HasVals c) (with_first_vals k.vals ls) one.later
    (first_vals-all c one.here ls (All-head (HasVals c) one.here one.later from_k) all_ls)
    (All-tail (HasVals c) one.here one.later from_k)) in
    record {
      polygon = subst (IsPolygon d.edges) (sym image)
          (IsPolygon-from_circle d (one.before ++ (with_first_vals k.vals ls ++ one.later)) (omega arith) (omega arith)
          circle);
      vals = subst (All (HasVals c)) (sym image) all;
      count = ap (λ (xs : List CornerRec). length xs + 2) image ∙ sum;
    }
  where
    neither_vert : (x : EdgeRec) (v w u : VertName) → joins v w x ≡ true → v.0 ≢ u.0 → w.0 ≢ u.0 → has_end u x ≡ true
        → ⊥
    neither_vert x v w u joined not_v not_w ends = elim (or_cases (eqb x.a.0 u.0) (eqb x.b.0 u.0) ends) [
      | inl is_a ↦ elim (joins-cases v w x joined) [
        | inl ahead ↦ not_v (ap (λ (y : VertName). y.0) (sym ahead.0) ∙ eqb-true x.a.0 u.0 is_a)
        | inr back ↦ not_w (ap (λ (y : VertName). y.0) (sym back.0) ∙ eqb-true x.a.0 u.0 is_a)
      ]
      | inr is_b ↦ elim (joins-cases v w x joined) [
        | inl ahead ↦ not_w (ap (λ (y : VertName). y.0) (sym ahead.1) ∙ eqb-true x.b.0 u.0 is_b)
        | inr back ↦ not_v (ap (λ (y : VertName). y.0) (sym back.1) ∙ eqb-true x.b.0 u.0 is_b)
      ]
    ]

-- ---- THE COMPLEX

pub AreRight-join_face : (c : Complex) (f g : FaceName) (e : EdgeName) → IsFusion c f g e → AreRight (join_face c f g e)
AreRight-join_face c f g e s =
    let d = after c f g e in
    let change : FaceRec → FaceRec = fused e (face_rec c g).corners in
    let both = is_fused c f g e s in
    let right_f = s.right.faces f.0 (face_rec c f) (at-face_rec c f s.first) in
    record {
      layers = s.right.layers;
      verts = λ n x is. IsVertRight-same d c (same_layers c f g e) x (s.right.verts n x is);
      edges = λ n x is. let was = s.right.edges n x (was-erased c.edges e.0 n x is).0 in
          IsEdgeRight-same d c (same_layers c f g e) x x refl was.linked.a was.linked.b was.linked.differ was;
      faces = λ n x is.
          let kept = was-erased (update c.faces f.0 (fused e (face_rec c g).corners)) g.0 n x is in
          elim (cases_eq n f.0) [
            | inl at_f ↦
                let stood : at (update c.faces f.0 (fused e (face_rec c g).corners)) f.0
                ≡ Some (fused e (face_rec c g).corners (face_rec c f)) =
                at-update c.faces f.0 f.0 (fused e (face_rec c g).corners)
                ∙ cond-true (eqb f.0 f.0) _ _ (eq-eqb f.0 f.0 refl)
                ∙ ap (option_map (fused e (face_rec c g).corners)) (at-face_rec c f s.first) in
                let same : x ≡ fused e (face_rec c g).corners (face_rec c f) = let here = kept.0 in let moved =
                ap (at (update c.faces f.0 (fused e (face_rec c g).corners))) at_f in cc in
                subst (IsFaceRight d) (sym same)
                (face-with d c (same_layers c f g e) (face_rec c f) (fused_corners c f g e) both.polygon
                (HasVals-same d c (same_layers c f g e) (fused_corners c f g e) both.vals) right_f)
            | inr other ↦
                let before : at c.faces n ≡ Some x =
                sym (at-update_other c.faces f.0 n (fused e (face_rec c g).corners) (λ same. other (sym same)))
                ∙ kept.0 in
                let right = s.right.faces n x before in
                let free = s.only n x before other (λ same. kept.1 (sym same)) in
                let circle = IsCircle-from_polygon c x.corners right.polygon in
                let stay = stay_along c.edges (erase c.edges e.0) e (others_stay c e) x.corners
                (start_of x.corners nowhere) circle.closed free in
                face-same d c (same_layers c f g e) x
                (IsPolygon-from_circle d x.corners right.polygon.least right.polygon.most
                (record {
                  distinct = circle.distinct;
                  closed =
                      path-same c.edges (erase c.edges e.0) x.corners (start_of x.corners nowhere) stay circle.closed;
                }))
                right
          ];
    }

-- what the test tells that answers None
pub IsFusion-from_test : (c : Complex) (f g : FaceName) (e : EdgeName) → join_face_refusal c f g e ≡ None → AreRight c
    → IsFusion c f g e
IsFusion-from_test c f g e test right =
    let corners : List CornerRec = (face_rec c f).corners in
    let others : List CornerRec = (face_rec c g).corners in
    let one = first_of-none (unless_there c (Face f)) _ test in
    let two = first_of-none (unless_there c (Face g)) _ one.1 in
    let three = first_of-none (unless_there c (Edge e)) _ two.1 in
    let four = first_of-none (unless_at (not (eqb f.0 g.0)) Apart (Face f)) _ three.1 in
    let five = first_of-none (unless_at (eqb (length (corners_at_edge c e)) 2) NonManifold (Edge e)) _ four.1 in
    let six = first_of-none (unless_at (uses_edge e (face_rec c f) && uses_edge e (face_rec c g)) Apart (Edge e))
    _ five.1 in
    let seven = first_of-none (unless_at (not (run_same_way e corners others)) Winding (Edge e)) _ six.1 in
    let eight = first_of-none (unless_at (not (share_other_vert (edge_rec c e) corners others)) Pinched (Face g))
    _ seven.1 in
    let nine = first_of-none (unless_at (leb (length corners + length others) (MAX_SIDES + 2)) TooLong (Face f))
    _ eight.1 in
    let there_f = there-none c (Face f) one.0 in
    let there_g = there-none c (Face g) two.0 in
    let differ : f.0 ≢ g.0 =
    eqb-false f.0 g.0 (not-true (eqb f.0 g.0) (unless_at-none (not (eqb f.0 g.0)) Apart (Face f) four.0)) in
    let count = eqb-true (length (corners_at_edge c e)) 2
    (unless_at-none (eqb (length (corners_at_edge c e)) 2) NonManifold (Edge e) five.0) in
    let uses = and_parts (uses_edge e (face_rec c f)) (uses_edge e (face_rec c g))
    (unless_at-none (uses_edge e (face_rec c f) && uses_edge e (face_rec c g)) Apart (Edge e) six.0) in
    record {
      right = right;
      first = there_f;
      second = there_g;
      there = there-none c (Edge e) three.0;
      differ = differ;
      along_first = uses.0;
      along_second = uses.1;
      only = λ n h is not_f not_g. false_from_ne_true (uses_edge e h) (λ used.
          let many = three_along c e f.0 g.0 n (face_rec c f) (face_rec c g) h (at-face_rec c f there_f)
          (at-face_rec c g there_g) is differ not_f not_g uses.0 uses.1 used in absurd (omega arith));
      opposite = not-true (run_same_way e corners others)
          (unless_at-none (not (run_same_way e corners others)) Winding (Edge e) seven.0);
      apart = not-true (share_other_vert (edge_rec c e) corners others)
          (unless_at-none (not (share_other_vert (edge_rec c e) corners others)) Pinched (Face g) eight.0);
      room = leb-true (length corners + length others) (MAX_SIDES + 2)
          (unless_at-none (leb (length corners + length others) (MAX_SIDES + 2)) TooLong (Face f) nine.0);
    }

-- two corners less
pub corner_sum-join_face : (c : Complex) (f g : FaceName) (e : EdgeName) → IsFusion c f g e
    → corner_sum (join_face c f g e).faces + 2 ≡ corner_sum c.faces
corner_sum-join_face c f g e s =
    let one = corner_sum-update c.faces f.0 (fused e (face_rec c g).corners) (face_rec c f) (at-face_rec c f s.first) in
    let stood : at (update c.faces f.0 (fused e (face_rec c g).corners)) g.0 ≡ Some (face_rec c g) =
    at-update_other c.faces f.0 g.0 (fused e (face_rec c g).corners) s.differ ∙ at-face_rec c g s.second in
    let two = corner_sum-erase (update c.faces f.0 (fused e (face_rec c g).corners)) g.0 (face_rec c g) stood in
    let count = (is_fused c f g e s).count in
    omega arith

pub IsValid-join_face : (c : Complex) (f g : FaceName) (e : EdgeName) → join_face_refusal c f g e ≡ None → IsValid c
    → IsValid (join_face c f g e)
IsValid-join_face c f g e test h =
    let s = IsFusion-from_test c f g e test (AreRight-from_valid c h) in
    let most = h.limits.corners in
    let fewer = corner_sum-join_face c f g e s in
    IsValid-from_right (join_face c f g e) (AreRight-join_face c f g e s) (record {
      verts = h.limits.verts;
      edges = rw (length-erase c.edges e.0) h.limits.edges;
      faces = rw (
        length-erase (update c.faces f.0 (fused e (face_rec c g).corners)) g.0,
        length-update c.faces f.0 (fused e (face_rec c g).corners),
      ) h.limits.faces;
      corners = omega arith;
    })

pub IsSimple-join_face : (c : Complex) (f g : FaceName) (e : EdgeName) → IsSimple c → IsSimple (join_face c f g e)
IsSimple-join_face c f g e h = IsSimple-part (join_face c f g e) c (λ n x is. (was-erased c.edges e.0 n x is).0) h

pub IsSound-join_face : (c : Complex) (f g : FaceName) (e : EdgeName) → join_face_refusal c f g e ≡ None → IsSound c
    → IsSound (join_face c f g e)
IsSound-join_face c f g e test h =
    record { valid = IsValid-join_face c f g e test h.valid; simple = IsSimple-join_face c f g e h.simple }

pub counters-join_face : (c : Complex) (f g : FaceName) (e : EdgeName) → HasSameNames c (join_face c f g e)
counters-join_face c f g e = record {
  verts = refl;
  edges = length-erase c.edges e.0;
  faces = length-erase (update c.faces f.0 (fused e (face_rec c g).corners)) g.0
      ∙ length-update c.faces f.0 (fused e (face_rec c g).corners);
}

-- A valid complex with the copies of a closed set more: each copy is right, and the whole is sound.
use Rattle.std.proofs.Common.{◌≡◌, ℕ, ◌+◌, ◌<◌, ◌≤◌, true, eqb, ◌&&◌, List, length, get_or, refl}
use Rattle.std.proofs.Common.{sym, ap, ◌∙◌, subst, arith, All, Option, Some, None, is_some, ◌⊎◌, inl, inr}
use Rattle.std.specs.Option.{option_map}
use Rattle.std.proofs.lemmas.Bool.{and_parts, eq-eqb, or_left, or_right}
use Rattle.std.proofs.lemmas.List.{get_or-map, length-map}
use Rattle.std.proofs.lemmas.List.Elements.{All-map}
use Rattle.std.proofs.lemmas.List.Folds.{list_any_at}
use Rattle.mesh_model.specs.Table.{at, passes, IsThere}
use Rattle.mesh_model.specs.Complex.{Complex}
use Rattle.mesh_model.specs.Elements.{Elements, is_among}
use Rattle.mesh_model.specs.Incidence.{joins, has_end, uses_edge, is_along}
use Rattle.mesh_model.specs.Closure.{closure, is_edge_among, is_face_among}
use Rattle.mesh_model.specs.Naming.{rank, is_rising, are_rising, vert_numbers, edge_numbers, face_numbers}
use Rattle.mesh_model.specs.Valid.{IsFaceLinked, IsValid, IsSimple, IsSound, IsWithinLimits}
use Rattle.mesh_model.specs.declared.names.VertName.{VertName}
use Rattle.mesh_model.specs.declared.names.EdgeName.{EdgeName}
use Rattle.mesh_model.specs.declared.names.FaceName.{FaceName}
use Rattle.mesh_model.specs.declared.records.VertRec.{VertRec}
use Rattle.mesh_model.specs.declared.records.EdgeRec.{EdgeRec}
use Rattle.mesh_model.specs.declared.records.CornerRec.{CornerRec}
use Rattle.mesh_model.specs.declared.records.FaceRec.{FaceRec}
use Rattle.mesh_model.proofs.Closures.{rising-closure, closure-end, closure-uses}
use Rattle.mesh_model.proofs.Edges.{joins-symm, joins-cases}
use Rattle.mesh_model.proofs.Circles.{path-has_ends, joins-ahead, joins-back}
use Rattle.mesh_model.proofs.Grown.{IsPolygon-Extends}
use Rattle.mesh_model.proofs.Paths.{start_of, nowhere, IsCircle-from_polygon}
use Rattle.mesh_model.proofs.Ranks.{rank-get_or, fresh-same}
use Rattle.mesh_model.proofs.Right.{AreRight, IsVertRight, IsEdgeRight, IsFaceRight, HasVals, HasSameLayers}
use Rattle.mesh_model.proofs.Right.{AreRight-from_valid, IsFaceLinked-from_right, IsValid-from_right, IsVertRight-same}
use Rattle.mesh_model.proofs.Right.{IsEdgeRight-same, HasVals-same, AreFaceVals-same, face-same}
use Rattle.mesh_model.proofs.Tables.{there-below, there-Extends, Extends-append}
use Rattle.mesh_copies.specs.Copying.{vert_copy, edge_copy, copied_edge, copied_corner, copied_face, with_copies}
use Rattle.mesh_copies.proofs.Appended.{old-or-new, at-member, among-numbers}
use Rattle.mesh_copies.proofs.Polygons.{IsPolygon-copied}

-- ---- A SET THAT IS ITS OWN CLOSURE

abbrev pub IsClosedSet : Complex → Elements → Type 0
IsClosedSet c s = closure c s ≡ s

pub rising_closed : (c : Complex) (s : Elements) → IsClosedSet c s → are_rising s ≡ true
rising_closed c s closed = ap are_rising (sym closed) ∙ rising-closure c s

pub verts_rise : (c : Complex) (s : Elements) → IsClosedSet c s → is_rising (vert_numbers s.verts) ≡ true
verts_rise c s closed =
    (and_parts (is_rising (vert_numbers s.verts)) (is_rising (edge_numbers s.edges) && is_rising (face_numbers s.faces))
    (rising_closed c s closed)).0

pub edges_rise : (c : Complex) (s : Elements) → IsClosedSet c s → is_rising (edge_numbers s.edges) ≡ true
edges_rise c s closed =
    (and_parts (is_rising (edge_numbers s.edges)) (is_rising (face_numbers s.faces))
    (and_parts (is_rising (vert_numbers s.verts)) (is_rising (edge_numbers s.edges) && is_rising (face_numbers s.faces))
    (rising_closed c s closed)).1).0

pub faces_rise : (c : Complex) (s : Elements) → IsClosedSet c s → is_rising (face_numbers s.faces) ≡ true
faces_rise c s closed =
    (and_parts (is_rising (edge_numbers s.edges)) (is_rising (face_numbers s.faces))
    (and_parts (is_rising (vert_numbers s.verts)) (is_rising (edge_numbers s.edges) && is_rising (face_numbers s.faces))
    (rising_closed c s closed)).1).1

-- an end of an edge of the set is in the set
end-in : (c : Complex) (s : Elements) → IsClosedSet c s → (e : EdgeName) (r : EdgeRec) (v : VertName)
    → is_edge_among s.edges e ≡ true → at c.edges e.0 ≡ Some r → has_end v r ≡ true → IsThere c.verts v.0
    → is_among s.verts v ≡ true
end-in c s closed e r v among is end there =
    ap (λ (x : Elements). is_among x.verts v) (sym closed)
    ∙ closure-end c s e r v (ap (λ (x : Elements). is_edge_among x.edges e) closed ∙ among) is end
    (there-below c.verts v.0 there)

-- an edge of a face of the set is in the set
side-in : (c : Complex) (s : Elements) → IsClosedSet c s → (f : FaceName) (r : FaceRec) (e : EdgeName)
    → is_face_among s.faces f ≡ true → at c.faces f.0 ≡ Some r → uses_edge e r ≡ true → IsThere c.edges e.0
    → is_edge_among s.edges e ≡ true
side-in c s closed f r e among is uses there =
    ap (λ (x : Elements). is_edge_among x.edges e) (sym closed)
    ∙ closure-uses c s f r e (ap (λ (x : Elements). is_face_among x.faces f) closed ∙ among) is uses
    (there-below c.edges e.0 there)

a-end : (r : EdgeRec) → has_end r.a r ≡ true
a-end r = or_left (eqb r.a.0 r.a.0) (eqb r.b.0 r.a.0) (eq-eqb r.a.0 r.a.0 refl)

b-end : (r : EdgeRec) → has_end r.b r ≡ true
b-end r = or_right (eqb r.a.0 r.b.0) (eqb r.b.0 r.b.0) (eq-eqb r.b.0 r.b.0 refl)

-- both ends of an edge of the set
ends-in : (c : Complex) (s : Elements) → IsValid c → IsClosedSet c s → (e : EdgeName) (r : EdgeRec)
    → is_edge_among s.edges e ≡ true → at c.edges e.0 ≡ Some r
    → (is_among s.verts r.a ≡ true) × (is_among s.verts r.b ≡ true)
ends-in c s valid closed e r among is =
    let linked = valid.linked.edges e.0 r is in
    (end-in c s closed e r r.a among is (a-end r) linked.a, end-in c s closed e r r.b among is (b-end r) linked.b)

-- the edges of the corners of a face of the set, and their vertices
sides-in : (c : Complex) (s : Elements) → IsValid c → IsClosedSet c s → (f : FaceName) (r : FaceRec)
    → is_face_among s.faces f ≡ true → at c.faces f.0 ≡ Some r
    → All (λ (k : CornerRec). is_edge_among s.edges k.edge ≡ true) r.corners
sides-in c s valid closed f r among is i d less =
    let k = get_or r.corners i d in
    side-in c s closed f r k.edge among is
    (list_any_at (is_along k.edge) r.corners i d less (eq-eqb k.edge.0 k.edge.0 refl))
    ((valid.linked.faces f.0 r is).corners i d less).edge

corners-in : (c : Complex) (s : Elements) → IsValid c → IsClosedSet c s → (f : FaceName) (r : FaceRec)
    → is_face_among s.faces f ≡ true → at c.faces f.0 ≡ Some r
    → All (λ (k : CornerRec). is_among s.verts k.vert ≡ true) r.corners
corners-in c s valid closed f r among is i d less =
    let k = get_or r.corners i d in
    let circle = IsCircle-from_polygon c r.corners (valid.faces f.0 r is).polygon in
    let ends = path-has_ends c.edges r.corners (start_of r.corners nowhere) circle.closed i d less in
    let linked = (valid.linked.faces f.0 r is).corners i d less in
    of_edge k (at c.edges k.edge.0) refl ends linked.vert (sides-in c s valid closed f r among is i d less)
  where
    of_edge : (k : CornerRec) (o : Option EdgeRec) → at c.edges k.edge.0 ≡ o → passes (has_end k.vert) o ≡ true
        → IsThere c.verts k.vert.0 → is_edge_among s.edges k.edge ≡ true → is_among s.verts k.vert ≡ true
    of_edge k None at_edge ends there in_set = absurd (cc)
    of_edge k (Some e) at_edge ends there in_set = end-in c s closed k.edge e k.vert in_set at_edge ends there

-- ---- WHERE COPIES STAND

vert-at : (c : Complex) (s : Elements) → IsClosedSet c s → (v : VertName) → is_among s.verts v ≡ true
    → at (with_copies c s).verts (vert_copy c s v).0 ≡ at c.verts v.0
vert-at c s closed v among =
    at-member (λ (x : VertName). x.0) (λ n. at c.verts n) c.verts s.verts v.0 v (verts_rise c s closed) among

edge-at : (c : Complex) (s : Elements) → IsClosedSet c s → (e : EdgeName) → is_edge_among s.edges e ≡ true
    → at (with_copies c s).edges (edge_copy c s e).0 ≡ option_map (copied_edge (vert_copy c s)) (at c.edges e.0)
edge-at c s closed e among =
    at-member (λ (x : EdgeName). x.0) (λ n. option_map (copied_edge (vert_copy c s)) (at c.edges n)) c.edges s.edges e.0 e
    (edges_rise c s closed) among

-- copies of two vertices of the set differ where these do
pub verts_apart : (c : Complex) (s : Elements) → IsClosedSet c s → (u w : VertName) → is_among s.verts u ≡ true
    → is_among s.verts w ≡ true → (vert_copy c s u).0 ≡ (vert_copy c s w).0 → u.0 ≡ w.0
verts_apart c s closed u w in_u in_w same =
    fresh-same (length c.verts) 0 (vert_numbers s.verts) u.0 w.0 (verts_rise c s closed)
    (among-numbers (λ (x : VertName). x.0) s.verts u.0 in_u) (among-numbers (λ (x : VertName). x.0) s.verts w.0 in_w) same

same_layers : (c : Complex) (s : Elements) → HasSameLayers (with_copies c s) c
same_layers c s = record { layers = refl; materials = refl }

vert_there : (c : Complex) (s : Elements) → IsValid c → IsClosedSet c s → (v : VertName) → is_among s.verts v ≡ true
    → IsThere c.verts v.0 → IsThere (with_copies c s).verts (vert_copy c s v).0
vert_there c s valid closed v among there = ap is_some (vert-at c s closed v among) ∙ there

-- ---- EACH COPY IS RIGHT

pub edge_copy-right : (c : Complex) (s : Elements) → IsValid c → IsClosedSet c s → (e : EdgeName) (r : EdgeRec)
    → is_edge_among s.edges e ≡ true → at c.edges e.0 ≡ Some r
    → IsEdgeRight (with_copies c s) (copied_edge (vert_copy c s) r)
edge_copy-right c s valid closed e r among is =
    let right = (AreRight-from_valid c valid).edges e.0 r is in
    let linked = right.linked in
    let ends = ends-in c s valid closed e r among is in
    IsEdgeRight-same (with_copies c s) c (same_layers c s) r (copied_edge (vert_copy c s) r) refl
    (vert_there c s valid closed r.a ends.0 linked.a) (vert_there c s valid closed r.b ends.1 linked.b)
    (λ same. linked.differ (verts_apart c s closed r.a r.b ends.0 ends.1 same)) right

pub face_copy-right : (c : Complex) (s : Elements) → IsValid c → IsClosedSet c s → (f : FaceName) (r : FaceRec)
    → is_face_among s.faces f ≡ true → at c.faces f.0 ≡ Some r
    → IsFaceRight (with_copies c s) (copied_face (vert_copy c s) (edge_copy c s) r)
face_copy-right c s valid closed f r among is =
    let d = with_copies c s in
    let rv = vert_copy c s in
    let re = edge_copy c s in
    let right = (AreRight-from_valid c valid).faces f.0 r is in record {
      polygon = IsPolygon-copied c d rv re (λ v. is_among s.verts v ≡ true) (verts_apart c s closed) r.corners
          (All-map (λ (v : VertName). is_among s.verts v ≡ true) (λ (k : CornerRec). k.vert) r.corners
          (corners-in c s valid closed f r among is))
          (λ i q less. edge-at c s closed (get_or r.corners i q).edge (sides-in c s valid closed f r among is i q less))
          right.polygon;
      corners = All-map (HasVals d) (copied_corner rv re) r.corners
          (HasVals-same d c (same_layers c s) r.corners right.corners);
      vals = AreFaceVals-same d c (same_layers c s) r.vals right.vals;
    }

-- ---- THE WHOLE IS SOUND

-- the member at a position
vert-member : (s : Elements) (i : ℕ) (d : VertName) → i < length s.verts → is_among s.verts (get_or s.verts i d) ≡ true
vert-member s i d less = let v = get_or s.verts i d in
    list_any_at (λ (w : VertName). eqb w.0 v.0) s.verts i d less (eq-eqb v.0 v.0 refl)

pub edge-member : (s : Elements) (i : ℕ) (d : EdgeName) → i < length s.edges
    → is_edge_among s.edges (get_or s.edges i d) ≡ true
edge-member s i d less = let e = get_or s.edges i d in
    list_any_at (λ (x : EdgeName). eqb x.0 e.0) s.edges i d less (eq-eqb e.0 e.0 refl)

pub face-member : (s : Elements) (i : ℕ) (d : FaceName) → i < length s.faces
    → is_face_among s.faces (get_or s.faces i d) ≡ true
face-member s i d less = let f = get_or s.faces i d in
    list_any_at (λ (x : FaceName). eqb x.0 f.0) s.faces i d less (eq-eqb f.0 f.0 refl)

-- what is copied of a record that stands
copied-of : {X : Type 0} (f : X → X) (o : Option X) (x : X) → option_map f o ≡ Some x → (y : X) × (o ≡ Some y) × (x ≡ f y)
copied-of f None x h = absurd (cc)
copied-of f (Some y) x h = (y, refl, cc)

abbrev pub no_vert : VertName
no_vert = record { 0 = 0 }

abbrev pub no_edge : EdgeName
no_edge = record { 0 = 0 }

abbrev pub no_face : FaceName
no_face = record { 0 = 0 }

-- an edge after: one of before, or the copy of a member
pub record IsEdgeOfMember (c : Complex) (s : Elements) (n : ℕ) (e : EdgeRec) : Type 0 where
  pub place : ℕ
  pub within : place < length s.edges
  pub name : n ≡ length c.edges + place
  pub was : EdgeRec
  pub stood : at c.edges (get_or s.edges place no_edge).0 ≡ Some was
  pub copied : e ≡ copied_edge (vert_copy c s) was

edge-cases : (c : Complex) (s : Elements) (n : ℕ) (e : EdgeRec) → at (with_copies c s).edges n ≡ Some e
    → (at c.edges n ≡ Some e) ⊎ IsEdgeOfMember c s n e
edge-cases c s n e is =
    let g : EdgeName → Option EdgeRec = λ x. option_map (copied_edge (vert_copy c s)) (at c.edges x.0) in
    elim (old-or-new g c.edges s.edges n e is) [
      | inl old ↦ inl old
      | inr new ↦
          let it = copied-of (copied_edge (vert_copy c s)) (at c.edges (get_or s.edges new.place no_edge).0) e
          (new.source no_edge) in
          inr (record {
            place = new.place;
            within = new.within;
            name = new.name;
            was = it.0;
            stood = it.1;
            copied = it.2;
          })
    ]

edges-right : (c : Complex) (s : Elements) → IsValid c → IsClosedSet c s → (n : ℕ) (e : EdgeRec)
    → at (with_copies c s).edges n ≡ Some e → IsEdgeRight (with_copies c s) e
edges-right c s valid closed n e is =
    let d = with_copies c s in
    elim (edge-cases c s n e is) [
      | inl old ↦
          let right = (AreRight-from_valid c valid).edges n e old in
          IsEdgeRight-same d c (same_layers c s) e e refl
          (there-Extends c.verts d.verts (Extends-append c.verts _) e.a.0 right.linked.a)
          (there-Extends c.verts d.verts (Extends-append c.verts _) e.b.0 right.linked.b) right.linked.differ right
      | inr new ↦ subst (IsEdgeRight d) (sym new.copied)
          (edge_copy-right c s valid closed (get_or s.edges new.place no_edge) new.was
          (edge-member s new.place no_edge new.within) new.stood)
    ]

faces-right : (c : Complex) (s : Elements) → IsValid c → IsClosedSet c s → (n : ℕ) (f : FaceRec)
    → at (with_copies c s).faces n ≡ Some f → IsFaceRight (with_copies c s) f
faces-right c s valid closed n f is =
    let d = with_copies c s in
    let copied = copied_face (vert_copy c s) (edge_copy c s) in
    let g : FaceName → Option FaceRec = λ x. option_map copied (at c.faces x.0) in
    elim (old-or-new g c.faces s.faces n f is) [
      | inl old ↦
          let right = (AreRight-from_valid c valid).faces n f old in
          face-same d c (same_layers c s) f
          (IsPolygon-Extends d c (Extends-append c.edges _) f.corners right.polygon) right
      | inr new ↦
          let it = copied-of copied (at c.faces (get_or s.faces new.place no_face).0) f (new.source no_face) in
          subst (IsFaceRight d) (sym it.2)
          (face_copy-right c s valid closed (get_or s.faces new.place no_face) it.0
          (face-member s new.place no_face new.within) it.1)
    ]

verts-right : (c : Complex) (s : Elements) → IsValid c → (n : ℕ) (r : VertRec)
    → at (with_copies c s).verts n ≡ Some r → IsVertRight (with_copies c s) r
verts-right c s valid n r is =
    let d = with_copies c s in
    let right = AreRight-from_valid c valid in
    elim (old-or-new (λ (v : VertName). at c.verts v.0) c.verts s.verts n r is) [
      | inl old ↦ IsVertRight-same d c (same_layers c s) r (right.verts n r old)
      | inr new ↦ IsVertRight-same d c (same_layers c s) r
          (right.verts (get_or s.verts new.place no_vert).0 r (new.source no_vert))
    ]

pub AreRight-copies : (c : Complex) (s : Elements) → IsValid c → IsClosedSet c s → AreRight (with_copies c s)
AreRight-copies c s valid closed = record {
  layers = valid.linked.layers;
  verts = verts-right c s valid;
  edges = edges-right c s valid closed;
  faces = faces-right c s valid closed;
}

-- a copied face is linked before the limits are tried
pub face_copy-linked : (c : Complex) (s : Elements) → IsValid c → IsClosedSet c s → (f : FaceName) (r : FaceRec)
    → is_face_among s.faces f ≡ true → at c.faces f.0 ≡ Some r
    → IsFaceLinked (with_copies c s) (copied_face (vert_copy c s) (edge_copy c s) r)
face_copy-linked c s valid closed f r among is =
    IsFaceLinked-from_right (with_copies c s) (edges-right c s valid closed)
    (copied_face (vert_copy c s) (edge_copy c s) r) (face_copy-right c s valid closed f r among is)

pub IsValid-copies : (c : Complex) (s : Elements) → IsValid c → IsClosedSet c s → IsWithinLimits (with_copies c s)
    → IsValid (with_copies c s)
IsValid-copies c s valid closed limits =
    IsValid-from_right (with_copies c s) (AreRight-copies c s valid closed) limits

-- ---- SIMPLE

vert_same : (u w : VertName) → u.0 ≡ w.0 → u ≡ w
vert_same u w same = ap (λ (n : ℕ). let v : VertName = record { 0 = n } in v) same

-- members of a rising list with the same number stand at the same place
same_place : (es : List EdgeName) (i j : ℕ) → is_rising (edge_numbers es) ≡ true → i < length es → j < length es
    → (get_or es i no_edge).0 ≡ (get_or es j no_edge).0 → i ≡ j
same_place es i j rising l m same =
    let num : EdgeName → ℕ = λ e. e.0 in
    let first : i < length (edge_numbers es) = omega (arith, length-map es num) in
    let second : j < length (edge_numbers es) = omega (arith, length-map es num) in
    sym (rank-get_or (edge_numbers es) i rising first)
    ∙ ap (rank (edge_numbers es)) (get_or-map num es i no_edge 0 l ∙ same ∙ sym (get_or-map num es j no_edge 0 m))
    ∙ rank-get_or (edge_numbers es) j rising second

-- the ends of an old edge have old names, those of a copy new ones
old_ends : (c : Complex) → IsValid c → (n : ℕ) (e : EdgeRec) → at c.edges n ≡ Some e
    → (e.a.0 < length c.verts) × (e.b.0 < length c.verts)
old_ends c valid n e is = let linked = valid.linked.edges n e is in
    (there-below c.verts e.a.0 linked.a, there-below c.verts e.b.0 linked.b)

new_name : (c : Complex) (s : Elements) (v : VertName) → length c.verts ≤ (vert_copy c s v).0
new_name c s v = omega arith

new_ends : (c : Complex) (s : Elements) (n : ℕ) (e : EdgeRec) → IsEdgeOfMember c s n e
    → (length c.verts ≤ e.a.0) × (length c.verts ≤ e.b.0)
new_ends c s n e new = (
  subst (λ (x : EdgeRec). length c.verts ≤ x.a.0) (sym new.copied) (new_name c s new.was.a),
  subst (λ (x : EdgeRec). length c.verts ≤ x.b.0) (sym new.copied) (new_name c s new.was.b),
)

-- an old edge and a copy don't have the same ends
not_both : (c : Complex) (e f : EdgeRec) (P : Type 0)
    → (e.a.0 < length c.verts) × (e.b.0 < length c.verts) → (length c.verts ≤ f.a.0) × (length c.verts ≤ f.b.0)
    → joins e.a e.b f ≡ true → P
not_both c e f P old new same = elim (joins-cases e.a e.b f same) [
  | inl ahead ↦ let is = ap (λ (v : VertName). v.0) ahead.0 in let l = old.0 in let m = new.0 in absurd (omega arith)
  | inr back ↦ let is = ap (λ (v : VertName). v.0) back.0 in let l = old.1 in let m = new.0 in absurd (omega arith)
]

-- two copies with the same ends are copies of edges with the same ends
copies_join : (c : Complex) (s : Elements) → IsClosedSet c s → (e f : EdgeRec) → is_among s.verts e.a ≡ true
    → is_among s.verts e.b ≡ true → is_among s.verts f.a ≡ true → is_among s.verts f.b ≡ true
    → joins (vert_copy c s e.a) (vert_copy c s e.b) (copied_edge (vert_copy c s) f) ≡ true → joins e.a e.b f ≡ true
copies_join c s closed e f e_a e_b f_a f_b same =
    let copy = vert_copy c s in
    let was : (u w : VertName) → is_among s.verts u ≡ true → is_among s.verts w ≡ true → copy u ≡ copy w → u ≡ w =
    λ u w in_u in_w is. vert_same u w (verts_apart c s closed u w in_u in_w (ap (λ (v : VertName). v.0) is)) in
    elim (joins-cases (copy e.a) (copy e.b) (copied_edge copy f) same) [
      | inl ahead ↦ joins-ahead e.a e.b f (was f.a e.a f_a e_a ahead.0) (was f.b e.b f_b e_b ahead.1)
      | inr back ↦ joins-back e.a e.b f (was f.a e.b f_a e_b back.0) (was f.b e.a f_b e_a back.1)
    ]

new_same : (c : Complex) (s : Elements) → IsSound c → IsClosedSet c s → (m n : ℕ) (e f : EdgeRec)
    → IsEdgeOfMember c s m e → IsEdgeOfMember c s n f → joins e.a e.b f ≡ true → m ≡ n
new_same c s sound closed m n e f x y same =
    let copy = vert_copy c s in
    let d = get_or s.edges x.place no_edge in
    let g = get_or s.edges y.place no_edge in
    let d_in = ends-in c s sound.valid closed d x.was (edge-member s x.place no_edge x.within) x.stood in
    let g_in = ends-in c s sound.valid closed g y.was (edge-member s y.place no_edge y.within) y.stood in
    let copies : joins (copy x.was.a) (copy x.was.b) (copied_edge copy y.was) ≡ true =
    sym (ap (λ (r : EdgeRec). joins r.a r.b f) x.copied
    ∙ ap (joins (copy x.was.a) (copy x.was.b)) y.copied) ∙ same in
    let is = sound.simple d.0 g.0 x.was y.was x.stood y.stood
    (copies_join c s closed x.was y.was d_in.0 d_in.1 g_in.0 g_in.1 copies) in
    let place = same_place s.edges x.place y.place (edges_rise c s closed) x.within y.within is in
    x.name ∙ ap (λ (k : ℕ). length c.edges + k) place ∙ sym y.name

pub IsSimple-copies : (c : Complex) (s : Elements) → IsSound c → IsClosedSet c s → IsSimple (with_copies c s)
IsSimple-copies c s sound closed m n e f at_m at_n same = elim (edge-cases c s m e at_m) [
  | inl old_m ↦ elim (edge-cases c s n f at_n) [
    | inl old_n ↦ sound.simple m n e f old_m old_n same
    | inr new_n ↦ not_both c e f (m ≡ n) (old_ends c sound.valid m e old_m) (new_ends c s n f new_n) same
  ]
  | inr new_m ↦ elim (edge-cases c s n f at_n) [
    | inl old_n ↦ not_both c f e (m ≡ n) (old_ends c sound.valid n f old_n) (new_ends c s m e new_m)
        (sym (joins-symm e f) ∙ same)
    | inr new_n ↦ new_same c s sound closed m n e f new_m new_n same
  ]
]

-- a sound complex with the copies of a closed set more is sound, within the limits
pub IsSound-copies : (c : Complex) (s : Elements) → IsSound c → IsClosedSet c s → IsWithinLimits (with_copies c s)
    → IsSound (with_copies c s)
IsSound-copies c s sound closed limits =
    record { valid = IsValid-copies c s sound.valid closed limits; simple = IsSimple-copies c s sound closed }

-- A face, an edge or a vertex killed with what stands on it: what is left is a part of the complex.
use Rattle.std.proofs.Common.{◌≡◌, ◌≢◌, ℕ, Bool, true, false, not, eqb, ◌||◌, List, [], ◌∷◌, length, get_or, refl, sym}
use Rattle.std.proofs.Common.{ap, ◌∙◌, inl, inr, Option, Some, None, is_some, ◌⊎◌}
use Rattle.std.specs.Cmp.{nat_eq_equiv}
use Rattle.std.proofs.lemmas.Bool.{not-true, not_from_false, or_parts, or_cases, eq-eqb, eqb-true, both_ways}
use Rattle.std.proofs.lemmas.Bool.{false_from_ne_true}
use Rattle.std.proofs.lemmas.List.Folds.{list_any_at}
use Rattle.mesh_model.specs.Table.{at, IsThere, passes, allows, kept, erase, kept_names}
use Rattle.mesh_model.specs.Complex.{Complex}
use Rattle.mesh_model.specs.Incidence.{has_end, uses_edge, uses_vert, is_along, is_at, joins}
use Rattle.mesh_model.specs.Deleting.{has_end_among, has_corner_among, without_verts}
use Rattle.mesh_model.specs.Elements.{is_among}
use Rattle.mesh_model.specs.Kernel.{without_face, without_edge, without_vert, uses_edge_at, can_lose_vert}
use Rattle.mesh_model.specs.Valid.{is_closed, IsLinked, IsValid, IsSimple}
use Rattle.mesh_model.specs.declared.names.VertName.{VertName}
use Rattle.mesh_model.specs.declared.names.EdgeName.{EdgeName}
use Rattle.mesh_model.specs.declared.names.FaceName.{FaceName}
use Rattle.mesh_model.specs.declared.records.VertRec.{VertRec}
use Rattle.mesh_model.specs.declared.records.EdgeRec.{EdgeRec}
use Rattle.mesh_model.specs.declared.records.CornerRec.{CornerRec}
use Rattle.mesh_model.specs.declared.records.FaceRec.{FaceRec}
use Rattle.mesh_model.proofs.Tables.{stands, there_from, at-below, length-erase, at-erase_other, was-erased}
use Rattle.mesh_model.proofs.Tables.{length-kept, was-kept, still-kept, kept-same, erase-kept_names, kept_names-all}
use Rattle.mesh_model.proofs.Lists.{list_any-none, list_any-elim, list_all-All}
use Rattle.mesh_model.proofs.NameSets.{same_tests}
use Rattle.mesh_model.proofs.Edges.{same_vert_name, joins-cases, has_end-joins}
use Rattle.mesh_model.proofs.Polygons.{after, after-below, closed-at}
use Rattle.mesh_model.proofs.Parts.{IsPart, IsLinked-part, IsValid-part, IsSimple-part}
use Rattle.mesh_model.proofs.Deletings.{AreClosed, AreClosed-valid}

still_there : {X : Type 0} (table : List (Option X)) (m n : ℕ) → m ≢ n → IsThere table n → IsThere (erase table m) n
still_there table m n other there = ap is_some (at-erase_other table m n other) ∙ there

-- the test of a name fails at others
eqb_apart : (m n : ℕ) → eqb n m ≡ false → m ≢ n
eqb_apart m n off same = both_ways (eqb n m) off (eq-eqb n m (sym same))

-- ---- A FACE

pub IsPart-without_face : (c : Complex) (f : FaceName) → IsLinked c → IsPart (without_face c f) c
IsPart-without_face c f h = record {
  verts = λ n r is. is;
  edges = λ n e is. is;
  faces = λ n r is. (was-erased c.faces f.0 n r is).0;
  vert_names = refl;
  edge_names = refl;
  face_names = length-erase c.faces f.0;
  layers = refl;
  materials = refl;
  ends = λ n e is. let l = h.edges n e is in (l.a, l.b);
  corners = λ n r is i d less. let l = (h.faces n r (was-erased c.faces f.0 n r is).0).corners i d less in
      record { vert = l.vert; edge = l.edge };
}

pub IsLinked-without_face : (c : Complex) (f : FaceName) → IsLinked c → IsLinked (without_face c f)
IsLinked-without_face c f h = IsLinked-part (without_face c f) c (IsPart-without_face c f h) h

pub IsValid-without_face : (c : Complex) (f : FaceName) → IsValid c → IsValid (without_face c f)
IsValid-without_face c f h = IsValid-part (without_face c f) c (IsPart-without_face c f h.linked) h

pub IsSimple-without_face : (c : Complex) (f : FaceName) → IsSimple c → IsSimple (without_face c f)
IsSimple-without_face c f h = h

-- ---- AN EDGE

pub IsPart-without_edge : (c : Complex) (e : EdgeName) → IsLinked c → IsPart (without_edge c e) c
IsPart-without_edge c e h =
    let spares : FaceRec → Bool = λ f. not (uses_edge e f) in
    record {
      verts = λ n r is. is;
      edges = λ n r is. (was-erased c.edges e.0 n r is).0;
      faces = λ n f is. (was-kept spares c.faces n f is).0;
      vert_names = refl;
      edge_names = length-erase c.edges e.0;
      face_names = length-kept spares c.faces;
      layers = refl;
      materials = refl;
      ends = λ n r is. let l = h.edges n r (was-erased c.edges e.0 n r is).0 in (l.a, l.b);
      corners = λ n f is i d less.
          let was = was-kept spares c.faces n f is in
          let off = list_any-none (is_along e) f.corners (not-true (uses_edge e f) was.1) i d less in
          let l = (h.faces n f was.0).corners i d less in
          record {
            vert = l.vert;
            edge =
                still_there c.edges e.0 (get_or f.corners i d).edge.0 (eqb_apart e.0 (get_or f.corners i d).edge.0 off)
                l.edge;
          };
    }

pub IsLinked-without_edge : (c : Complex) (e : EdgeName) → IsLinked c → IsLinked (without_edge c e)
IsLinked-without_edge c e h = IsLinked-part (without_edge c e) c (IsPart-without_edge c e h) h

pub IsValid-without_edge : (c : Complex) (e : EdgeName) → IsValid c → IsValid (without_edge c e)
IsValid-without_edge c e h = IsValid-part (without_edge c e) c (IsPart-without_edge c e h.linked) h

pub IsSimple-without_edge : (c : Complex) (e : EdgeName) → IsSimple c → IsSimple (without_edge c e)
IsSimple-without_edge c e h = IsSimple-part (without_edge c e) c (λ n r is. (was-erased c.edges e.0 n r is).0) h

-- ---- A VERTEX

-- each face with a corner at a vertex has a corner along an edge of that vertex
abbrev pub CanLoseVert : Complex → VertName → Type 0
CanLoseVert c v = (n : ℕ) (f : FaceRec) → at c.faces n ≡ Some f → uses_vert v f ≡ true → uses_edge_at c v f ≡ true

-- and the test tells it
pub CanLoseVert-can_lose_vert : (c : Complex) (v : VertName) → can_lose_vert c v ≡ true → CanLoseVert c v
CanLoseVert-can_lose_vert c v h n f is uses =
    let test : FaceRec → Bool = λ f. not (uses_vert v f) || uses_edge_at c v f in
    let pass : allows test (at c.faces n) ≡ true =
    list_all-All (allows test) c.faces h n None (at-below c.faces n f is) in
    elim (or_cases (not (uses_vert v f)) (uses_edge_at c v f) (ap (allows test) (sym is) ∙ pass)) [
      | inl off ↦ absurd (both_ways (uses_vert v f) (not-true (uses_vert v f) off) uses)
      | inr on ↦ on
    ]

pub IsPart-without_vert : (c : Complex) (v : VertName) → IsLinked c → CanLoseVert c v → IsPart (without_vert c v) c
IsPart-without_vert c v h can =
    let spares_edge : EdgeRec → Bool = λ e. not (has_end v e) in
    let spares_face : FaceRec → Bool = λ f. not (uses_edge_at c v f) in
    record {
      verts = λ n r is. (was-erased c.verts v.0 n r is).0;
      edges = λ n e is. (was-kept spares_edge c.edges n e is).0;
      faces = λ n f is. (was-kept spares_face c.faces n f is).0;
      vert_names = length-erase c.verts v.0;
      edge_names = length-kept spares_edge c.edges;
      face_names = length-kept spares_face c.faces;
      layers = refl;
      materials = refl;
      ends = λ n e is.
          let was = was-kept spares_edge c.edges n e is in
          let off = or_parts (eqb e.a.0 v.0) (eqb e.b.0 v.0) (not-true (has_end v e) was.1) in
          let l = h.edges n e was.0 in (
            still_there c.verts v.0 e.a.0 (eqb_apart v.0 e.a.0 off.0) l.a,
            still_there c.verts v.0 e.b.0 (eqb_apart v.0 e.b.0 off.1) l.b,
          );
      corners = λ n f is i d less.
          let was = was-kept spares_face c.faces n f is in
          let no_edge = not-true (uses_edge_at c v f) was.1 in
          let no_vert : uses_vert v f ≡ false =
          false_from_ne_true (uses_vert v f) (λ uses. both_ways (uses_edge_at c v f) no_edge (can n f was.0 uses))
          in
          let off = list_any-none (is_at v) f.corners no_vert i d less in
          let ends = list_any-none (λ (k : CornerRec). passes (has_end v) (at c.edges k.edge.0))
          f.corners no_edge i d less in
          let l = (h.faces n f was.0).corners i d less in
          let it = stands (at c.edges (get_or f.corners i d).edge.0) l.edge in
          record {
            vert = still_there c.verts v.0 (get_or f.corners i d).vert.0
                (eqb_apart v.0 (get_or f.corners i d).vert.0 off) l.vert;
            edge = there_from (without_vert c v).edges (get_or f.corners i d).edge.0 it.0
                (still-kept spares_edge c.edges (get_or f.corners i d).edge.0 it.0 it.1
                (not_from_false (has_end v it.0) (ap (passes (has_end v)) (sym it.1) ∙ ends)));
          };
    }

pub IsLinked-without_vert : (c : Complex) (v : VertName) → CanLoseVert c v → IsLinked c → IsLinked (without_vert c v)
IsLinked-without_vert c v can h = IsLinked-part (without_vert c v) c (IsPart-without_vert c v h can) h

-- a corner of a closed polygon goes along an edge of its vertex
uses_edge_there : (c : Complex) (v : VertName) (f : FaceRec) → is_closed c.edges f.corners ≡ true → uses_vert v f ≡ true
    → uses_edge_at c v f ≡ true
uses_edge_there c v f closed uses = list_any-elim (uses_edge_at c v f ≡ true) (is_at v) f.corners (λ i d less here.
    let at_v : (get_or f.corners i d).vert ≡ v =
    same_vert_name (get_or f.corners i d).vert v (eqb-true (get_or f.corners i d).vert.0 v.0 here) in
    let along = closed-at c f.corners closed i d less in
    list_any_at (λ (k : CornerRec). passes (has_end v) (at c.edges k.edge.0)) f.corners i d less
    (end_passes (get_or f.corners i d).vert (get_or f.corners (after (length f.corners) i) d).vert
    (at c.edges (get_or f.corners i d).edge.0) along at_v)) uses
  where
    end_passes : (u w : VertName) (o : Option EdgeRec) → passes (joins u w) o ≡ true → u ≡ v
        → passes (has_end v) o ≡ true
    end_passes u w None h same = absurd (cc)
    end_passes u w (Some e) h same = ap (λ (x : VertName). has_end x e) (sym same) ∙ has_end-joins u w e h

-- where faces are closed polygons each vertex can go
pub CanLoseVert-closed : (c : Complex) (v : VertName) → AreClosed c → CanLoseVert c v
CanLoseVert-closed c v closed n f is uses = uses_edge_there c v f (closed n f is) uses

pub IsValid-without_vert : (c : Complex) (v : VertName) → IsValid c → IsValid (without_vert c v)
IsValid-without_vert c v h =
    IsValid-part (without_vert c v) c (IsPart-without_vert c v h.linked (CanLoseVert-closed c v (AreClosed-valid c h)))
    h

pub IsSimple-without_vert : (c : Complex) (v : VertName) → IsSimple c → IsSimple (without_vert c v)
IsSimple-without_vert c v h =
    IsSimple-part (without_vert c v) c (λ n e is. (was-kept (λ e. not (has_end v e)) c.edges n e is).0) h

-- ---- ONE VERTEX, AND A LIST OF ONE

one_among : (v w : VertName) → is_among (v ∷ []) w ≡ eqb w.0 v.0
one_among v w = or_false (eqb v.0 w.0) ∙ nat_eq_equiv.symm v.0 w.0
  where
    or_false : (b : Bool) → (b || false) ≡ b
    or_false true = refl
    or_false false = refl

-- a face along an edge of a vertex has a corner there
uses_vert_there : (c : Complex) (v : VertName) (f : FaceRec) → is_closed c.edges f.corners ≡ true
    → uses_edge_at c v f ≡ true → has_corner_among (v ∷ []) f ≡ true
uses_vert_there c v f closed uses =
    list_any-elim (has_corner_among (v ∷ []) f ≡ true) (λ (k : CornerRec). passes (has_end v) (at c.edges k.edge.0))
    f.corners (λ i d less here.
    let j = after (length f.corners) i in
    let below = after-below (length f.corners) i less in
    let along = closed-at c f.corners closed i d less in
    elim (is_either (get_or f.corners i d).vert (get_or f.corners j d).vert (at c.edges (get_or f.corners i d).edge.0)
    along here) [
      | inl own ↦ list_any_at (λ (k : CornerRec). is_among (v ∷ []) k.vert) f.corners i d less
          (one_among v (get_or f.corners i d).vert ∙ own)
      | inr next ↦ list_any_at (λ (k : CornerRec). is_among (v ∷ []) k.vert) f.corners j d below
          (one_among v (get_or f.corners j d).vert ∙ next)
    ]) uses
  where
    is_either : (u w : VertName) (o : Option EdgeRec) → passes (joins u w) o ≡ true → passes (has_end v) o ≡ true
        → (eqb u.0 v.0 ≡ true) ⊎ (eqb w.0 v.0 ≡ true)
    is_either u w None h ends = absurd (cc)
    is_either u w (Some e) h ends = elim (joins-cases u w e h) [
      | inl same ↦ elim (or_cases (eqb e.a.0 v.0) (eqb e.b.0 v.0) ends) [
        | inl a ↦ inl (ap (λ (x : VertName). eqb x.0 v.0) (sym same.0)
            ∙ a)
        | inr b ↦ inr (ap (λ (x : VertName). eqb x.0 v.0) (sym same.1) ∙ b)
      ]
      | inr back ↦ elim (or_cases (eqb e.a.0 v.0) (eqb e.b.0 v.0) ends) [
        | inl a ↦ inr (ap (λ (x : VertName). eqb x.0 v.0) (sym back.0)
            ∙ a)
        | inr b ↦ inl (ap (λ (x : VertName). eqb x.0 v.0) (sym back.1) ∙ b)
      ]
    ]

-- to kill a vertex is to delete the list of that vertex, where faces are closed polygons
pub without_vert-without_verts : (c : Complex) (v : VertName) → AreClosed c
    → without_vert c v ≡ without_verts c (v ∷ [])
without_vert-without_verts c v closed = rw (verts, edges, faces) refl
  where
    verts : erase c.verts v.0 ≡ kept_names (λ n. not (is_among (v ∷ []) (record { 0 = n }))) c.verts
    verts = ap (λ (t : List (Option VertRec)). erase t v.0) (sym (kept_names-all (λ _. true) c.verts (λ n. refl)))
        ∙ erase-kept_names (λ _. true) (λ n. not (is_among (v ∷ []) (record { 0 = n }))) v.0 c.verts
        (λ n. ap not (one_among v (record { 0 = n }) ∙ nat_eq_equiv.symm n v.0))

    edges : kept (λ e. not (has_end v e)) c.edges ≡ kept (λ e. not (has_end_among (v ∷ []) e)) c.edges
    edges = kept-same (λ e. not (has_end v e)) (λ e. not (has_end_among (v ∷ []) e)) c.edges
        (λ n e is. rw (one_among v e.a, one_among v e.b) refl)

    faces : kept (λ f. not (uses_edge_at c v f)) c.faces ≡ kept (λ f. not (has_corner_among (v ∷ []) f)) c.faces
    faces = kept-same (λ f. not (uses_edge_at c v f)) (λ f. not (has_corner_among (v ∷ []) f)) c.faces
        (λ n f is. ap not (same_tests (uses_edge_at c v f) (has_corner_among (v ∷ []) f)
        (uses_vert_there c v f (closed n f is))
        (λ among. uses_edge_there c v f (closed n f is)
        (list_any-elim (uses_vert v f ≡ true) (λ (k : CornerRec). is_among (v ∷ []) k.vert) f.corners
        (λ i d less here. list_any_at (is_at v) f.corners i d less (sym (one_among v (get_or f.corners i d).vert)
        ∙ here)) among))))

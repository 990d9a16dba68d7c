-- What is left after each way of taking elements away is linked, valid and simple where the complex was valid.
use Rattle.std.proofs.Common.{◌≡◌, ℕ, ◌<◌, Bool, true, false, not, eqb, ◌&&◌, ◌||◌, List, [], ◌∷◌, length, get_or, refl, sym}
use Rattle.std.proofs.Common.{ap, ◌∙◌, subst, inl, inr, Option, Some, None, All}
use Rattle.std.specs.List.{list_any}
use Rattle.std.proofs.lemmas.List.Folds.{list_any_at}
use Rattle.std.proofs.lemmas.Bool.{not-true, not_from_false, eq-eqb, or_left, or_right}
use Rattle.std.proofs.lemmas.List.{get_or_default}
use Rattle.mesh_model.specs.Table.{at, kept, kept_names, passes, allows, IsThere}
use Rattle.mesh_model.specs.Complex.{Complex}
use Rattle.mesh_model.specs.Elements.{Elements, is_among}
use Rattle.mesh_model.specs.Closure.{is_edge_among, is_face_among, AreLive}
use Rattle.mesh_model.specs.Incidence.{has_end, is_along, is_at, uses_edge, uses_vert, is_loose, is_bare}
use Rattle.mesh_model.specs.Kernel.{uses_edge_at, can_lose_vert}
use Rattle.mesh_model.specs.Valid.{IsLinked, IsValid, IsSimple, IsSound}
use Rattle.mesh_model.specs.declared.names.VertName.{VertName}
use Rattle.mesh_model.specs.declared.names.EdgeName.{EdgeName}
use Rattle.mesh_model.specs.declared.names.FaceName.{FaceName}
use Rattle.mesh_model.specs.declared.records.EdgeRec.{EdgeRec}
use Rattle.mesh_model.specs.declared.records.CornerRec.{CornerRec}
use Rattle.mesh_model.specs.declared.records.FaceRec.{FaceRec}
use Rattle.mesh_model.proofs.Lists.{list_any-none, list_any-elim, list_any-same, All-list_all}
use Rattle.mesh_model.proofs.Tables.{was-kept, was-kept_names, there-kept_names, length-kept, length-kept_names, stands}
use Rattle.mesh_model.proofs.Tables.{there_passes, at-below}
use Rattle.mesh_model.proofs.Parts.{IsPart, IsLinked-part, IsValid-part, IsSimple-part}
use Rattle.mesh_model.proofs.Deletings.{AreClosed, AreClosed-valid}
use Rattle.mesh_model.proofs.KernelKillings.{CanLoseVert, CanLoseVert-closed}
use Rattle.mesh_passes.specs.Killing.{uses_edge_among, without_faces, without_edges, without_loose, without_bare}
use Rattle.mesh_passes.specs.Killing.{without_set}

-- what is among some, and has a property, does not stay
both-false : (a b : Bool) → b ≡ false → not (a && b) ≡ true
both-false true b h = ap not h
both-false false b h = refl

-- ---- FACES

pub IsPart-without_faces : (c : Complex) (fs : List FaceName) → IsLinked c → IsPart (without_faces c fs) c
unfolding without_faces
IsPart-without_faces c fs h =
    let spares : ℕ → Bool = λ n. not (is_face_among fs (record { 0 = n })) in
    record {
      verts = λ n r is. is;
      edges = λ n r is. is;
      faces = λ n f is. (was-kept_names spares c.faces n f is).0;
      vert_names = refl;
      edge_names = refl;
      face_names = length-kept_names spares c.faces;
      layers = refl;
      materials = refl;
      ends = λ n r is. let l = h.edges n r is in (l.a, l.b);
      corners = λ n f is i d less.
          let l = (h.faces n f (was-kept_names spares c.faces n f is).0).corners i d less in
          record { vert = l.vert; edge = l.edge };
    }

-- ---- EDGES, WITH THE FACES ALONG THEM

pub IsPart-without_edges : (c : Complex) (es : List EdgeName) → IsLinked c → IsPart (without_edges c es) c
unfolding without_edges
IsPart-without_edges c es h =
    let spares_name : ℕ → Bool = λ n. not (is_edge_among es (record { 0 = n })) in
    let spares : FaceRec → Bool = λ f. not (uses_edge_among es f) in
    record {
      verts = λ n r is. is;
      edges = λ n r is. (was-kept_names spares_name c.edges n r is).0;
      faces = λ n f is. (was-kept spares c.faces n f is).0;
      vert_names = refl;
      edge_names = length-kept_names spares_name c.edges;
      face_names = length-kept spares c.faces;
      layers = refl;
      materials = refl;
      ends = λ n r is. let l = h.edges n r (was-kept_names spares_name c.edges n r is).0 in (l.a, l.b);
      corners = λ n f is i d less.
          let was = was-kept spares c.faces n f is in
          let off = list_any-none (λ (k : CornerRec). is_edge_among es k.edge) f.corners
          (not-true (uses_edge_among es f) was.1) i d less in
          let l = (h.faces n f was.0).corners i d less in
          record {
            vert = l.vert;
            edge = there-kept_names spares_name c.edges (get_or f.corners i d).edge.0
                (not_from_false (is_edge_among es (get_or f.corners i d).edge) off) l.edge;
          };
    }

-- ---- LOOSE EDGES

-- an edge along which a face has a corner isn't loose
used : (c : Complex) (n : ℕ) (f : FaceRec) (e : EdgeName) → at c.faces n ≡ Some f → uses_edge e f ≡ true
    → is_loose c e ≡ false
used c n f e is uses = ap not (list_any_at (passes (uses_edge e)) c.faces n None (at-below c.faces n f is)
    (ap (passes (uses_edge e)) is ∙ uses))

pub IsPart-without_loose : (c : Complex) (es : List EdgeName) → IsLinked c → IsPart (without_loose c es) c
unfolding without_loose
IsPart-without_loose c es h =
    let spares : ℕ → Bool = λ n. not (is_edge_among es (record { 0 = n }) && is_loose c (record { 0 = n })) in
    record {
      verts = λ n r is. is;
      edges = λ n r is. (was-kept_names spares c.edges n r is).0;
      faces = λ n f is. is;
      vert_names = refl;
      edge_names = length-kept_names spares c.edges;
      face_names = refl;
      layers = refl;
      materials = refl;
      ends = λ n r is. let l = h.edges n r (was-kept_names spares c.edges n r is).0 in (l.a, l.b);
      corners = λ n f is i d less.
          let l = (h.faces n f is).corners i d less in
          let e : EdgeName = (get_or f.corners i d).edge in
          record {
            vert = l.vert;
            edge = there-kept_names spares c.edges e.0
                (both-false (is_edge_among es e) (is_loose c e)
                (used c n f e is (list_any_at (is_along e) f.corners i d less (eq-eqb e.0 e.0 refl)))) l.edge;
          };
    }

-- ---- BARE VERTICES

-- an edge ends at a vertex, which isn't bare then
ended : (c : Complex) (n : ℕ) (r : EdgeRec) (v : VertName) → at c.edges n ≡ Some r → has_end v r ≡ true
    → is_bare c v ≡ false
ended c n r v is ends = ap not (list_any_at (passes (has_end v)) c.edges n None (at-below c.edges n r is)
    (ap (passes (has_end v)) is ∙ ends))

-- a corner of a closed face stands at the end of an edge
corner_ended : (c : Complex) (n : ℕ) (f : FaceRec) (v : VertName) → AreClosed c → at c.faces n ≡ Some f
    → uses_vert v f ≡ true → is_bare c v ≡ false
corner_ended c n f v closed is uses =
    list_any-elim (is_bare c v ≡ false) (λ (k : CornerRec). passes (has_end v) (at c.edges k.edge.0)) f.corners
    (λ i d less here.
    let it = stands (at c.edges (get_or f.corners i d).edge.0)
    (there_passes (has_end v) (at c.edges (get_or f.corners i d).edge.0) here) in
    ended c (get_or f.corners i d).edge.0 it.0 v it.1 (sym (ap (passes (has_end v)) it.1) ∙ here))
    (CanLoseVert-closed c v closed n f is uses)

pub IsPart-without_bare : (c : Complex) (vs : List VertName) → IsLinked c → AreClosed c → IsPart (without_bare c vs) c
unfolding without_bare
IsPart-without_bare c vs h closed =
    let spares : ℕ → Bool = λ n. not (is_among vs (record { 0 = n }) && is_bare c (record { 0 = n })) in
    let stays : (v : VertName) → is_bare c v ≡ false → IsThere c.verts v.0 → IsThere (kept_names spares c.verts) v.0 =
    λ v is there. there-kept_names spares c.verts v.0 (both-false (is_among vs v) (is_bare c v) is) there in
    record {
      verts = λ n r is. (was-kept_names spares c.verts n r is).0;
      edges = λ n r is. is;
      faces = λ n f is. is;
      vert_names = length-kept_names spares c.verts;
      edge_names = refl;
      face_names = refl;
      layers = refl;
      materials = refl;
      ends = λ n r is. let l = h.edges n r is in (
        stays r.a (ended c n r r.a is (or_left (eqb r.a.0 r.a.0) (eqb r.b.0 r.a.0) (eq-eqb r.a.0 r.a.0 refl))) l.a,
        stays r.b (ended c n r r.b is (or_right (eqb r.a.0 r.b.0) (eqb r.b.0 r.b.0) (eq-eqb r.b.0 r.b.0 refl))) l.b,
      );
      corners = λ n f is i d less.
          let l = (h.faces n f is).corners i d less in
          let v : VertName = (get_or f.corners i d).vert in
          record {
            vert = stays v (corner_ended c n f v closed is (list_any_at (is_at v) f.corners i d less (eq-eqb v.0 v.0 refl)))
                l.vert;
            edge = l.edge;
          };
    }

-- ---- VALID

pub faces_valid : (c : Complex) (fs : List FaceName) → IsValid c → IsValid (without_faces c fs)
faces_valid c fs h = IsValid-part (without_faces c fs) c (IsPart-without_faces c fs h.linked) h

pub IsValid-without_edges : (c : Complex) (es : List EdgeName) → IsValid c → IsValid (without_edges c es)
IsValid-without_edges c es h = IsValid-part (without_edges c es) c (IsPart-without_edges c es h.linked) h

pub loose_valid : (c : Complex) (es : List EdgeName) → IsValid c → IsValid (without_loose c es)
loose_valid c es h = IsValid-part (without_loose c es) c (IsPart-without_loose c es h.linked) h

pub IsValid-without_bare : (c : Complex) (vs : List VertName) → IsValid c → IsValid (without_bare c vs)
IsValid-without_bare c vs h =
    IsValid-part (without_bare c vs) c (IsPart-without_bare c vs h.linked (AreClosed-valid c h)) h

pub IsValid-without_set : (c : Complex) (s : Elements) → IsValid c → IsValid (without_set c s)
IsValid-without_set c s h = IsValid-without_bare (without_loose (without_faces c s.faces) s.edges) s.verts
    (loose_valid (without_faces c s.faces) s.edges (faces_valid c s.faces h))

-- ---- SIMPLE

pub IsSound-without_faces : (c : Complex) (fs : List FaceName) → IsSound c → IsSound (without_faces c fs)
IsSound-without_faces c fs h = record {
  valid = faces_valid c fs h.valid;
  simple = IsSimple-part (without_faces c fs) c (IsPart-without_faces c fs h.valid.linked).edges h.simple;
}

pub IsSound-without_edges : (c : Complex) (es : List EdgeName) → IsSound c → IsSound (without_edges c es)
IsSound-without_edges c es h = record {
  valid = IsValid-without_edges c es h.valid;
  simple = IsSimple-part (without_edges c es) c (IsPart-without_edges c es h.valid.linked).edges h.simple;
}

pub IsSound-without_loose : (c : Complex) (es : List EdgeName) → IsSound c → IsSound (without_loose c es)
IsSound-without_loose c es h = record {
  valid = loose_valid c es h.valid;
  simple = IsSimple-part (without_loose c es) c (IsPart-without_loose c es h.valid.linked).edges h.simple;
}

pub IsSound-without_bare : (c : Complex) (vs : List VertName) → IsSound c → IsSound (without_bare c vs)
IsSound-without_bare c vs h = record {
  valid = IsValid-without_bare c vs h.valid;
  simple = IsSimple-part (without_bare c vs) c
      (IsPart-without_bare c vs h.valid.linked (AreClosed-valid c h.valid)).edges h.simple;
}

pub IsSound-without_set : (c : Complex) (s : Elements) → IsSound c → IsSound (without_set c s)
IsSound-without_set c s h = IsSound-without_bare (without_loose (without_faces c s.faces) s.edges) s.verts
    (IsSound-without_loose (without_faces c s.faces) s.edges (IsSound-without_faces c s.faces h))

-- ---- EACH VERTEX CAN GO

-- a vertex can go where each face with a corner there has a corner along an edge of it
spared : (c : Complex) (v : VertName) → CanLoseVert c v → can_lose_vert c v ≡ true
spared c v h = All-list_all (allows (λ f. not (uses_vert v f) || uses_edge_at c v f)) c.faces
    (λ n d less. each n (at c.faces n) refl (get_or c.faces n d) (get_or_default c.faces n d None less))
  where
    test : FaceRec → Bool
    test f = not (uses_vert v f) || uses_edge_at c v f

    by_use : (n : ℕ) (f : FaceRec) → at c.faces n ≡ Some f → (b : Bool) → uses_vert v f ≡ b
        → (not b || uses_edge_at c v f) ≡ true
    by_use n f is true uses = h n f is uses
    by_use n f is false uses = refl

    each : (n : ℕ) (o : Option FaceRec) → at c.faces n ≡ o → (p : Option FaceRec) → p ≡ o → allows test p ≡ true
    each n None is p same = ap (allows test) same
    each n (Some f) is p same = ap (allows test) same ∙ by_use n f is (uses_vert v f) refl

-- where faces close
pub can_lose : (c : Complex) (v : VertName) → AreClosed c → can_lose_vert c v ≡ true
can_lose c v closed = spared c v (CanLoseVert-closed c v closed)

-- a face of a part goes along the same edges of a vertex
uses-part : (d c : Complex) (v : VertName) → IsPart d c → (n : ℕ) (f : FaceRec) → at d.faces n ≡ Some f
    → uses_edge_at c v f ≡ true → uses_edge_at d v f ≡ true
uses-part d c v p n f is uses =
    list_any-same (λ (k : CornerRec). passes (has_end v) (at d.edges k.edge.0))
    (λ (k : CornerRec). passes (has_end v) (at c.edges k.edge.0)) f.corners
    (λ i e less. let it = stands (at d.edges (get_or f.corners i e).edge.0) (p.corners n f is i e less).edge in
    ap (passes (has_end v)) (it.1 ∙ sym (p.edges (get_or f.corners i e).edge.0 it.0 it.1))) ∙ uses

-- each vertex can go from a complex with closed faces that has lost some faces and some loose edges
pub set_spare : (c : Complex) (fs : List FaceName) (es : List EdgeName) (v : VertName) → IsLinked c → AreClosed c
    → can_lose_vert (without_loose (without_faces c fs) es) v ≡ true
set_spare c fs es v h closed =
    let m = without_faces c fs in
    let p = IsPart-without_faces c fs h in
    let q = IsPart-without_loose m es (IsLinked-part m c p h) in
    spared (without_loose m es) v (λ n f is uses.
    let was = q.faces n f is in
    uses-part (without_loose m es) m v q n f is
    (uses-part m c v p n f was (CanLoseVert-closed c v closed n f (p.faces n f was) uses)))

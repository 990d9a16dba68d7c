-- The closure of a set rises, its members are there, and it is closed.
use Rattle.std.proofs.Common.{◌≡◌, ℕ, ◌<◌, Bool, true, false, eqb, ◌&&◌, ◌||◌, List, length, get_or, filter, refl, sym}
use Rattle.std.proofs.Common.{ap, ◌∙◌, subst, inl, inr, Option, Some, None, All, not, is_some}
use Rattle.std.proofs.lemmas.Bool.{and_from, and_parts, or_cases, or_right, eqb-true}
use Rattle.std.proofs.lemmas.List.Elements.{All-weaker, filter_passes}
use Rattle.mesh_model.specs.Table.{at, IsThere, passes}
use Rattle.mesh_model.specs.Complex.{Complex}
use Rattle.mesh_model.specs.Elements.{Elements, is_among}
use Rattle.mesh_model.specs.Incidence.{has_end, uses_edge, is_along}
use Rattle.mesh_model.specs.Naming.{are_rising, is_rising, vert_numbers, edge_numbers, face_numbers}
use Rattle.mesh_model.specs.Valid.{IsLinked}
use Rattle.mesh_model.specs.Closure.{is_edge_among, is_face_among, verts_below, edges_below, faces_below, AreLive}
use Rattle.mesh_model.specs.Closure.{is_edge_of, is_end_of, closure_faces, closure_edges, closure_verts, closure}
use Rattle.mesh_model.specs.Closure.{is_new, new_between}
use Rattle.mesh_model.specs.declared.names.VertName.{VertName}
use Rattle.mesh_model.specs.declared.names.EdgeName.{EdgeName}
use Rattle.mesh_model.specs.declared.names.FaceName.{FaceName}
use Rattle.mesh_model.specs.declared.records.EdgeRec.{EdgeRec}
use Rattle.mesh_model.specs.declared.records.FaceRec.{FaceRec}
use Rattle.mesh_model.proofs.Lists.{list_any-elim}
use Rattle.mesh_model.proofs.NameSets.{filter-same, rising-filter, among-filter, All-below, among-All, any-among}

-- ---- NAMES OF EACH KIND

abbrev vert_name : ℕ → VertName
vert_name n = record { 0 = n }

abbrev edge_name : ℕ → EdgeName
edge_name n = record { 0 = n }

abbrev face_name : ℕ → FaceName
face_name n = record { 0 = n }

-- a name below the count is in the filter of the names where it passes
pub vert_among-filter : (p : VertName → Bool) (v : VertName) (count : ℕ) → v.0 < count
    → is_among (filter p (verts_below count)) v ≡ p v
vert_among-filter p v count less = among-filter (λ (x : VertName). x.0) vert_name (λ n. refl) (λ x. refl) p v count less

pub edge_among-filter : (p : EdgeName → Bool) (e : EdgeName) (count : ℕ) → e.0 < count
    → is_edge_among (filter p (edges_below count)) e ≡ p e
edge_among-filter p e count less = among-filter (λ (x : EdgeName). x.0) edge_name (λ n. refl) (λ x. refl) p e count less

pub face_among-filter : (p : FaceName → Bool) (f : FaceName) (count : ℕ) → f.0 < count
    → is_face_among (filter p (faces_below count)) f ≡ p f
face_among-filter p f count less = among-filter (λ (x : FaceName). x.0) face_name (λ n. refl) (λ x. refl) p f count less

-- what holds of a set's members holds of each name among them
pub vert_among-All : (P : VertName → Type 0) (vs : List VertName) (v : VertName) → All P vs → is_among vs v ≡ true → P v
vert_among-All P vs v all among = among-All (λ (x : VertName). x.0) vert_name (λ n. refl) (λ x. refl) P vs v all among

pub edge_among-All : (P : EdgeName → Type 0) (es : List EdgeName) (e : EdgeName) → All P es → is_edge_among es e ≡ true
    → P e
edge_among-All P es e all among = among-All (λ (x : EdgeName). x.0) edge_name (λ n. refl) (λ x. refl) P es e all among

pub face_among-All : (P : FaceName → Type 0) (fs : List FaceName) (f : FaceName) → All P fs → is_face_among fs f ≡ true
    → P f
face_among-All P fs f all among = among-All (λ (x : FaceName). x.0) face_name (λ n. refl) (λ x. refl) P fs f all among

-- ---- RISING

pub rising-closure : (c : Complex) (x : Elements) → are_rising (closure c x) ≡ true
rising-closure c x =
    let verts = rising-filter (λ (v : VertName). v.0) vert_name (λ n. refl) (λ v. refl)
    (λ v. is_among x.verts v || is_end_of c (closure_edges c x) v) (length c.verts) in
    let edges = rising-filter (λ (e : EdgeName). e.0) edge_name (λ n. refl) (λ e. refl) (λ e. is_edge_among x.edges e
    || is_edge_of c x.faces e) (length c.edges) in
    let faces = rising-filter (λ (f : FaceName). f.0) face_name (λ n. refl) (λ f. refl) (is_face_among x.faces)
    (length c.faces) in
    and_from (is_rising (vert_numbers (closure_verts c x))) (is_rising (edge_numbers (closure_edges c x))
    && is_rising (face_numbers (closure_faces c x))) verts
    (and_from (is_rising (edge_numbers (closure_edges c x))) (is_rising (face_numbers (closure_faces c x))) edges faces)

-- ---- THERE

-- the edges of faces that are linked are there
edge_there : (c : Complex) → IsLinked c → (fs : List FaceName) (e : EdgeName) → is_edge_of c fs e ≡ true
    → IsThere c.edges e.0
edge_there c linked fs e h =
    list_any-elim (IsThere c.edges e.0) (λ (f : FaceName). passes (uses_edge e) (at c.faces f.0)) fs
    (λ k d less uses. of_face (get_or fs k d).0 (at c.faces (get_or fs k d).0) refl uses) h
  where
    of_face : (n : ℕ) (o : Option FaceRec) → at c.faces n ≡ o → passes (uses_edge e) o ≡ true → IsThere c.edges e.0
    of_face n None is uses = absurd (cc)
    of_face n (Some f) is uses = list_any-elim (IsThere c.edges e.0) (is_along e) f.corners
        (λ i q less along. subst (λ (m : ℕ). IsThere c.edges m) (eqb-true (get_or f.corners i q).edge.0 e.0 along)
        ((linked.faces n f is).corners i q less).edge) uses

-- the ends of edges that are linked are there
end_there : (c : Complex) → IsLinked c → (es : List EdgeName) (v : VertName) → is_end_of c es v ≡ true
    → IsThere c.verts v.0
end_there c linked es v h =
    list_any-elim (IsThere c.verts v.0) (λ (e : EdgeName). passes (has_end v) (at c.edges e.0)) es
    (λ k d less ends. of_edge (get_or es k d).0 (at c.edges (get_or es k d).0) refl ends) h
  where
    of_edge : (n : ℕ) (o : Option EdgeRec) → at c.edges n ≡ o → passes (has_end v) o ≡ true → IsThere c.verts v.0
    of_edge n None is ends = absurd (cc)
    of_edge n (Some e) is ends = elim (or_cases (eqb e.a.0 v.0) (eqb e.b.0 v.0) ends) [
      | inl a ↦ subst (λ (m : ℕ). IsThere c.verts m) (eqb-true e.a.0 v.0 a) (linked.edges n e is).a
      | inr b ↦ subst (λ (m : ℕ). IsThere c.verts m) (eqb-true e.b.0 v.0 b) (linked.edges n e is).b
    ]

pub live-closure : (c : Complex) (x : Elements) → IsLinked c → AreLive c x → AreLive c (closure c x)
live-closure c x linked live = record {
  verts = All-weaker (λ (v : VertName). (is_among x.verts v || is_end_of c (closure_edges c x) v) ≡ true)
      (λ (v : VertName). IsThere c.verts v.0)
      (λ v h. elim (or_cases (is_among x.verts v) (is_end_of c (closure_edges c x) v) h) [
        | inl own ↦ vert_among-All (λ v. IsThere c.verts v.0) x.verts v live.verts own
        | inr end ↦ end_there c linked (closure_edges c x) v end
      ]) (closure_verts c x) (filter_passes (λ (v : VertName). is_among x.verts v || is_end_of c (closure_edges c x) v)
      (verts_below (length c.verts)));
  edges = All-weaker (λ (e : EdgeName). (is_edge_among x.edges e || is_edge_of c x.faces e) ≡ true)
      (λ (e : EdgeName). IsThere c.edges e.0)
      (λ e h. elim (or_cases (is_edge_among x.edges e) (is_edge_of c x.faces e) h) [
        | inl own ↦ edge_among-All (λ e. IsThere c.edges e.0) x.edges e live.edges own
        | inr of_face ↦ edge_there c linked x.faces e of_face
      ]) (closure_edges c x) (filter_passes (λ (e : EdgeName). is_edge_among x.edges e || is_edge_of c x.faces e)
      (edges_below (length c.edges)));
  faces = All-weaker (λ (f : FaceName). is_face_among x.faces f ≡ true) (λ (f : FaceName). IsThere c.faces f.0)
      (λ f h. face_among-All (λ f. IsThere c.faces f.0) x.faces f live.faces h) (closure_faces c x)
      (filter_passes (is_face_among x.faces) (faces_below (length c.faces)));
}

-- ---- CLOSED

-- a face of the set is in the closure
pub closure-face : (c : Complex) (x : Elements) (f : FaceName) → f.0 < length c.faces
    → is_face_among (closure_faces c x) f ≡ is_face_among x.faces f
closure-face c x f less = face_among-filter (is_face_among x.faces) f (length c.faces) less

-- an edge is in the closure where it is in the set or a face of the set goes along it
pub closure-edge : (c : Complex) (x : Elements) (e : EdgeName) → e.0 < length c.edges
    → is_edge_among (closure_edges c x) e ≡ (is_edge_among x.edges e || is_edge_of c x.faces e)
closure-edge c x e less =
    edge_among-filter (λ e. is_edge_among x.edges e || is_edge_of c x.faces e) e (length c.edges) less

-- a vertex is in the closure where it is in the set or an edge of the closure ends there
pub closure-vert : (c : Complex) (x : Elements) (v : VertName) → v.0 < length c.verts
    → is_among (closure_verts c x) v ≡ (is_among x.verts v || is_end_of c (closure_edges c x) v)
closure-vert c x v less =
    vert_among-filter (λ v. is_among x.verts v || is_end_of c (closure_edges c x) v) v (length c.verts) less

-- the faces of a closure are faces of the set, and so are their edges
edge_of-closure : (c : Complex) (x : Elements) (e : EdgeName) → is_edge_of c (closure_faces c x) e ≡ true
    → is_edge_of c x.faces e ≡ true
edge_of-closure c x e h =
    let test : FaceName → Bool = λ f. passes (uses_edge e) (at c.faces f.0) in
    list_any-elim (is_edge_of c x.faces e ≡ true) test (closure_faces c x) (λ k d less uses.
    any-among (λ (f : FaceName). f.0) face_name (λ n. refl) (λ f. refl) test x.faces (get_or (closure_faces c x) k d)
    (filter_passes (is_face_among x.faces) (faces_below (length c.faces)) k d less) uses) h

absorbs : (p q : Bool) → (q ≡ true → p ≡ true) → (p || q) ≡ p
absorbs true q h = refl
absorbs false true h = sym (h refl)
absorbs false false h = refl

closed_faces : (c : Complex) (x : Elements) → closure_faces c (closure c x) ≡ closure_faces c x
closed_faces c x = filter-same (is_face_among (closure_faces c x)) (is_face_among x.faces)
    (faces_below (length c.faces))
    (All-below (λ (f : FaceName). f.0) face_name (λ n. refl) (λ f. refl) (λ f. is_face_among (closure_faces c x) f
    ≡ is_face_among x.faces f) (length c.faces) (λ f less. closure-face c x f less))

closed_edges : (c : Complex) (x : Elements) → closure_edges c (closure c x) ≡ closure_edges c x
closed_edges c x =
    let again : EdgeName → Bool = λ e. is_edge_among (closure_edges c x) e || is_edge_of c (closure_faces c x) e in
    let once : EdgeName → Bool = λ e. is_edge_among x.edges e || is_edge_of c x.faces e in
    filter-same again once (edges_below (length c.edges))
    (All-below (λ (e : EdgeName). e.0) edge_name (λ n. refl) (λ e. refl) (λ e. again e ≡ once e) (length c.edges)
    (λ e less.
    ap (λ (b : Bool). b || is_edge_of c (closure_faces c x) e) (closure-edge c x e less)
    ∙ absorbs (once e) (is_edge_of c (closure_faces c x) e)
    (λ h. or_right (is_edge_among x.edges e) (is_edge_of c x.faces e) (edge_of-closure c x e h))))

closed_verts : (c : Complex) (x : Elements) → closure_verts c (closure c x) ≡ closure_verts c x
closed_verts c x =
    let again : VertName
    → Bool = λ v. is_among (closure_verts c x) v || is_end_of c (closure_edges c (closure c x)) v in
    let once : VertName → Bool = λ v. is_among x.verts v || is_end_of c (closure_edges c x) v in
    filter-same again once (verts_below (length c.verts))
    (All-below (λ (v : VertName). v.0) vert_name (λ n. refl) (λ v. refl) (λ v. again v ≡ once v) (length c.verts)
    (λ v less.
    ap (λ (es : List EdgeName). is_among (closure_verts c x) v || is_end_of c es v) (closed_edges c x)
    ∙ ap (λ (b : Bool). b || is_end_of c (closure_edges c x) v) (closure-vert c x v less)
    ∙ absorbs (once v) (is_end_of c (closure_edges c x) v)
    (λ h. or_right (is_among x.verts v) (is_end_of c (closure_edges c x) v) h)))

-- a closure is its own closure
pub closure-closure : (c : Complex) (x : Elements) → closure c (closure c x) ≡ closure c x
closure-closure c x = rw (closed_verts c x, closed_edges c x, closed_faces c x) refl

-- each end of an edge of the closure is in it
pub closure-end : (c : Complex) (x : Elements) (e : EdgeName) (r : EdgeRec) (v : VertName)
    → is_edge_among (closure_edges c x) e ≡ true → at c.edges e.0 ≡ Some r → has_end v r ≡ true → v.0 < length c.verts
    → is_among (closure_verts c x) v ≡ true
closure-end c x e r v among is end less = closure-vert c x v less
    ∙ or_right (is_among x.verts v) (is_end_of c (closure_edges c x) v)
    (any-among (λ (y : EdgeName). y.0) edge_name (λ n. refl) (λ y. refl)
    (λ (y : EdgeName). passes (has_end v) (at c.edges y.0)) (closure_edges c x) e among (ap (passes (has_end v)) is
    ∙ end))

-- each edge of a face of the closure is in it
pub closure-uses : (c : Complex) (x : Elements) (f : FaceName) (r : FaceRec) (e : EdgeName)
    → is_face_among (closure_faces c x) f ≡ true → at c.faces f.0 ≡ Some r → uses_edge e r ≡ true → e.0 < length c.edges
    → is_edge_among (closure_edges c x) e ≡ true
closure-uses c x f r e among is uses less = closure-edge c x e less
    ∙ or_right (is_edge_among x.edges e) (is_edge_of c x.faces e)
    (edge_of-closure c x e
    (any-among (λ (y : FaceName). y.0) face_name (λ n. refl) (λ y. refl)
    (λ (y : FaceName). passes (uses_edge e) (at c.faces y.0)) (closure_faces c x) f among
    (ap (passes (uses_edge e)) is ∙ uses)))

-- ---- WHAT IS NEW

-- the names of new elements rise
pub rising-new_between : (before after : Complex) → are_rising (new_between before after) ≡ true
rising-new_between before after =
    let new = new_between before after in
    let verts = rising-filter (λ (v : VertName). v.0) vert_name (λ n. refl) (λ v. refl)
    (λ v. is_new before.verts after.verts v.0) (length after.verts) in
    let edges = rising-filter (λ (e : EdgeName). e.0) edge_name (λ n. refl) (λ e. refl)
    (λ e. is_new before.edges after.edges e.0) (length after.edges) in
    let faces = rising-filter (λ (f : FaceName). f.0) face_name (λ n. refl) (λ f. refl)
    (λ f. is_new before.faces after.faces f.0) (length after.faces) in
    and_from (is_rising (vert_numbers new.verts)) (is_rising (edge_numbers new.edges)
    && is_rising (face_numbers new.faces)) verts
    (and_from (is_rising (edge_numbers new.edges)) (is_rising (face_numbers new.faces)) edges faces)

-- and they are there
pub live-new_between : (before after : Complex) → AreLive after (new_between before after)
live-new_between before after = record {
  verts = All-weaker (λ (v : VertName). is_new before.verts after.verts v.0 ≡ true)
      (λ (v : VertName). IsThere after.verts v.0)
      (λ v h. (and_parts (is_some (at after.verts v.0)) (not (is_some (at before.verts v.0))) h).0)
      (new_between before after).verts
      (filter_passes (λ (v : VertName). is_new before.verts after.verts v.0) (verts_below (length after.verts)));
  edges = All-weaker (λ (e : EdgeName). is_new before.edges after.edges e.0 ≡ true)
      (λ (e : EdgeName). IsThere after.edges e.0)
      (λ e h. (and_parts (is_some (at after.edges e.0)) (not (is_some (at before.edges e.0))) h).0)
      (new_between before after).edges
      (filter_passes (λ (e : EdgeName). is_new before.edges after.edges e.0) (edges_below (length after.edges)));
  faces = All-weaker (λ (f : FaceName). is_new before.faces after.faces f.0 ≡ true)
      (λ (f : FaceName). IsThere after.faces f.0)
      (λ f h. (and_parts (is_some (at after.faces f.0)) (not (is_some (at before.faces f.0))) h).0)
      (new_between before after).faces
      (filter_passes (λ (f : FaceName). is_new before.faces after.faces f.0) (faces_below (length after.faces)));
}

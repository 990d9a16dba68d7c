-- The faces that a mesh gives at a vertex: they are there, and each face with a corner at the vertex is among them.
use Rattle.std.proofs.Common.{◌≡◌, ℕ, suc, ◌<◌, Bool, true, eqb, List, [], ◌∷◌, ◌++◌, length, get_or}
use Rattle.std.proofs.Common.{refl, sym, ap, ◌∙◌, subst, inl, inr, arith, Option, Some, None, is_some}
use Rattle.std.specs.List.{list_any}
use Rattle.std.proofs.lemmas.Bool.{and_from, eqb-true, false≢true}
use Rattle.std.proofs.lemmas.List.{length-map, get_or-map, append-nil}
use Rattle.std.proofs.lemmas.List.Folds.{list_any_at}
use Rattle.link_ring.specs.Members.{HasMember}
use Rattle.link_ring.proofs.Members.{member_of, member_right}
use Rattle.mesh_model.specs.Table.{at, IsThere, passes}
use Rattle.mesh_model.specs.Complex.{Complex, corners_of, verts_of}
use Rattle.mesh_model.specs.Elements.{is_among}
use Rattle.mesh_model.specs.Incidence.{has_end, joins, is_at}
use Rattle.mesh_model.specs.Lookups.{least_face}
use Rattle.mesh_model.specs.Valid.{is_closed, IsValid}
use Rattle.mesh_model.specs.declared.names.VertName.{VertName}
use Rattle.mesh_model.specs.declared.names.FaceName.{FaceName}
use Rattle.mesh_model.specs.declared.records.CornerRec.{CornerRec}
use Rattle.mesh_model.specs.declared.records.EdgeRec.{EdgeRec}
use Rattle.mesh_model.specs.declared.records.FaceRec.{FaceRec}
use Rattle.mesh_model.proofs.Edges.{same_vert_name, has_end-joins}
use Rattle.mesh_model.proofs.Lists.{list_any-elim}
use Rattle.mesh_model.proofs.Polygons.{after, closed-at}
use Rattle.mesh_model.proofs.Tables.{at-below}
use Rattle.mesh_records.specs.Order.{has_corner_at, faces_of_vert}
use Rattle.mesh_records.specs.StandsFor.{ListsOnce}
use Rattle.mesh_records.proofs.Listing.{numbered_from, numbered_to}
use Rattle.op_basic.proofs.Searched.{IsLeast, least_of_all}

abbrev face : ℕ → FaceName
face n = record { 0 = n }

abbrev has_corner : Complex → VertName → Option FaceRec → Bool
has_corner c v o = list_any (has_corner_at c v) (corners_of o)

-- a face that is given is there
there_with : (c : Complex) (v : VertName) (o : Option FaceRec) → has_corner c v o ≡ true → is_some o ≡ true
there_with c v None h = absurd (false≢true h)
there_with c v (Some f) h = refl

pub face_there : (c : Complex) (v : VertName) (f : FaceName) → HasMember (faces_of_vert c v) f → IsThere c.faces f.0
face_there c v f h =
    let t = numbered_from None face (has_corner c v) c.faces f h in
    subst (λ (g : FaceName). IsThere c.faces g.0) t.named (there_with c v (at c.faces t.number) t.passed)

-- a closed face with a corner at a vertex has one whose edge ends there
ends_there : (v w : VertName) (o : Option EdgeRec) → passes (joins v w) o ≡ true → passes (has_end v) o ≡ true
ends_there v w None h = h
ends_there v w (Some e) h = has_end-joins v w e h

corner_there : (c : Complex) (v : VertName) (ks : List CornerRec) → is_closed c.edges ks ≡ true
    → is_among (verts_of ks) v ≡ true → list_any (has_corner_at c v) ks ≡ true
corner_there c v ks closed among =
    list_any-elim (list_any (has_corner_at c v) ks ≡ true) (λ (w : VertName). eqb w.0 v.0) (verts_of ks)
    (λ i d less same.
    let within : i < length ks = omega (arith, length-map ks (λ (k : CornerRec). k.vert)) in
    let q : CornerRec = record { vert = d; edge = record { 0 = 0 }; vals = [] } in
    let k = get_or ks i q in
    let here : get_or (verts_of ks) i d ≡ k.vert = get_or-map (λ (x : CornerRec). x.vert) ks i q d within in
    let is : eqb k.vert.0 v.0 ≡ true = sym (ap (λ (w : VertName). eqb w.0 v.0) here) ∙ same in
    let name = same_vert_name k.vert v (eqb-true k.vert.0 v.0 is) in
    let ends = ends_there k.vert (get_or ks (after (length ks) i) q).vert (at c.edges k.edge.0)
    (closed-at c ks closed i q within) in
    list_any_at (has_corner_at c v) ks i q within (and_from (is_at v k) (passes (has_end v) (at c.edges k.edge.0)) is
    (subst (λ (w : VertName). passes (has_end w) (at c.edges k.edge.0) ≡ true) name ends))) among

face_among : (c : Complex) (v : VertName) (n : ℕ) (f : FaceRec) → IsValid c → at c.faces n ≡ Some f
    → is_among (verts_of f.corners) v ≡ true → HasMember (faces_of_vert c v) (face n)
face_among c v n f h is among =
    let less = at-below c.faces n f is in
    numbered_to None face (has_corner c v) c.faces n less
    (ap (has_corner c v) is ∙ corner_there c v f.corners (h.faces n f is).polygon.closed among)

-- ---- ALL OF THEM GIVEN

position_of : (fs : List FaceName) (f : FaceName) → HasMember fs f
    → (i : ℕ) × (i < length fs) × ((get_or fs i (face 0)).0 ≡ f.0)
position_of [] f h = absurd h
position_of (g ∷ fs) f h = elim h [
  | inl same ↦ (0, omega arith, ap (λ (x : FaceName). x.0) same)
  | inr rest ↦ (let it = position_of fs f rest in (suc it.0, (let less : it.0 < length fs = it.1 in omega arith), it.2))
]

-- the next one that is given is there
pub next_there : (c : Complex) (v : VertName) (taken left rest : List FaceName) (f : FaceName)
    → ListsOnce (taken ++ left) (faces_of_vert c v) → left ≡ f ∷ rest → IsThere c.faces f.0
next_there c v taken left rest f lists is = face_there c v f ((lists.same f).0
    (member_of f (member_right taken (f ∷ rest) f (inl refl)) (ap (λ (fs : List FaceName). taken ++ fs) (sym is))))

-- the least of all that are given is the least of all that pass, where these have a corner at the vertex
pub least_given : (c : Complex) (v : VertName) (p : FaceRec → Bool) (given left : List FaceName)
    (least : Option FaceName) → IsValid c
    → ((f : FaceRec) → p f ≡ true → is_among (verts_of f.corners) v ≡ true)
    → ListsOnce (given ++ left) (faces_of_vert c v) → left ≡ []
    → IsLeast (λ (f : FaceName). passes p (at c.faces f.0)) given least → least ≡ least_face p c
least_given c v p given left least h at_v lists none is =
    let all : given ++ left ≡ given = ap (λ (fs : List FaceName). given ++ fs) none ∙ append-nil given in
    least_of_all c p given least
    (λ n f at_n pass. position_of given (face n)
    (member_of (face n) ((lists.same (face n)).1 (face_among c v n f h at_n (at_v f pass))) all)) is

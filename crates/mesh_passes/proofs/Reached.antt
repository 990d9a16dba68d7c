-- Numbers come by one after another, and what they are the numbers of.
use Rattle.std.proofs.Common.{◌≡◌, ℕ, ◌+◌, ◌<◌, Bool, true, false, eqb, ◌||◌, List, [], ◌∷◌, ◌++◌, length, map, filter, take}
use Rattle.std.proofs.Common.{get_or, refl, sym, ap, ◌∙◌, subst, inl, inr, Option, Some, None, All}
use Rattle.std.proofs.lemmas.List.{append-nil}
use Rattle.std.specs.List.{list_any, flat_map, range_with_len}
use Rattle.std.proofs.lemmas.Bool.{or_cases, eqb-true}
use Rattle.std.proofs.lemmas.List.{take_more, flat_map_more}
use Rattle.std.proofs.lemmas.List.Folds.{list_any-append}
use Rattle.mesh_model.specs.Table.{at, IsThere, passes}
use Rattle.mesh_model.specs.Complex.{Complex, corners_of}
use Rattle.mesh_model.specs.Elements.{Elements, is_among}
use Rattle.mesh_model.specs.Closure.{is_edge_among, is_face_among, is_edge_of, is_end_of, AreLive}
use Rattle.mesh_model.specs.Closure.{closure_faces, closure_edges, closure_verts}
use Rattle.mesh_model.specs.Incidence.{uses_edge, is_along, has_end}
use Rattle.mesh_model.specs.Naming.{is_rising, edge_numbers, vert_numbers, face_numbers}
use Rattle.mesh_model.specs.Valid.{IsLinked}
use Rattle.mesh_model.specs.declared.names.VertName.{VertName}
use Rattle.mesh_model.specs.declared.names.EdgeName.{EdgeName}
use Rattle.mesh_model.specs.declared.names.FaceName.{FaceName}
use Rattle.mesh_model.specs.declared.records.EdgeRec.{EdgeRec}
use Rattle.mesh_model.specs.declared.records.CornerRec.{CornerRec}
use Rattle.mesh_model.specs.declared.records.FaceRec.{FaceRec}
use Rattle.mesh_model.proofs.Lists.{list_any-elim}
use Rattle.mesh_model.proofs.Tables.{there-below}
use Rattle.mesh_model.proofs.Closures.{vert_among-All, edge_among-All, face_among-All}
use Rattle.mesh_passes.specs.Closing.{side_numbers, end_numbers, edges_reached, verts_reached}
use Rattle.mesh_passes.proofs.NameLists.{named_again, number_among, names_passing}

abbrev vert_name : ℕ → VertName
vert_name n = record { 0 = n }

abbrev edge_name : ℕ → EdgeName
edge_name n = record { 0 = n }

abbrev face_name : ℕ → FaceName
face_name n = record { 0 = n }

-- ---- ONE AFTER ANOTHER

pub edges_none : (c : Complex) (es : List EdgeName) → edges_reached c es [] ≡ edge_numbers es
unfolding edges_reached
edges_none c es = append-nil (edge_numbers es)

pub edges_more : (c : Complex) (es : List EdgeName) (fs : List FaceName) (i : ℕ) (d : FaceName) → i < length fs
    → edges_reached c es (take i fs) ++ side_numbers (at c.faces (get_or fs i d).0)
    ≡ edges_reached c es (take (i + 1) fs)
unfolding edges_reached
edges_more c es fs i d less =
    flat_map_more (λ (f : FaceName). side_numbers (at c.faces f.0)) (edge_numbers es) (take i fs) (get_or fs i d)
    ∙ ap (λ (xs : List FaceName). edge_numbers es ++ flat_map (λ (f : FaceName). side_numbers (at c.faces f.0)) xs)
    (sym (take_more fs i d less))

pub verts_none : (c : Complex) (vs : List VertName) → verts_reached c vs [] ≡ vert_numbers vs
unfolding verts_reached
verts_none c vs = append-nil (vert_numbers vs)

pub verts_more : (c : Complex) (vs : List VertName) (es : List EdgeName) (i : ℕ) (d : EdgeName) → i < length es
    → verts_reached c vs (take i es) ++ end_numbers (at c.edges (get_or es i d).0)
    ≡ verts_reached c vs (take (i + 1) es)
unfolding verts_reached
verts_more c vs es i d less =
    flat_map_more (λ (e : EdgeName). end_numbers (at c.edges e.0)) (vert_numbers vs) (take i es) (get_or es i d)
    ∙ ap (λ (xs : List EdgeName). vert_numbers vs ++ flat_map (λ (e : EdgeName). end_numbers (at c.edges e.0)) xs)
    (sym (take_more es i d less))

-- ---- WHAT THEY ARE THE NUMBERS OF

-- a number is among those of some things where it is among those of one of them
among_flat : {X : Type 0} (f : X → List ℕ) (p : X → Bool) (n : ℕ)
    → ((x : X) → list_any (λ m. eqb m n) (f x) ≡ p x) → (xs : List X)
    → list_any (λ m. eqb m n) (flat_map f xs) ≡ list_any p xs
among_flat f p n h [] = refl
among_flat f p n h (x ∷ xs) =
    list_any-append (λ m. eqb m n) (f x) (flat_map f xs)
    ∙ ap (λ (b : Bool). b || list_any (λ m. eqb m n) (flat_map f xs)) (h x)
    ∙ ap (λ (b : Bool). p x || b) (among_flat f p n h xs)

among_sides : (n : ℕ) (o : Option FaceRec) → list_any (λ m. eqb m n) (side_numbers o) ≡ passes (uses_edge (edge_name n)) o
among_sides n None = refl
among_sides n (Some f) = corners f.corners
  where
    corners : (ks : List CornerRec) → list_any (λ m. eqb m n) (map (λ (k : CornerRec). k.edge.0) ks)
        ≡ list_any (is_along (edge_name n)) ks
    corners [] = refl
    corners (k ∷ ks) = ap (λ (b : Bool). eqb k.edge.0 n || b) (corners ks)

or_false : (b : Bool) → (b || false) ≡ b
or_false true = refl
or_false false = refl

among_ends : (n : ℕ) (o : Option EdgeRec) → list_any (λ m. eqb m n) (end_numbers o) ≡ passes (has_end (vert_name n)) o
among_ends n None = refl
among_ends n (Some r) = ap (λ (b : Bool). eqb r.a.0 n || b) (or_false (eqb r.b.0 n))

pub among_edges : (c : Complex) (es : List EdgeName) (fs : List FaceName) (n : ℕ)
    → list_any (λ m. eqb m n) (edges_reached c es fs)
    ≡ (is_edge_among es (edge_name n) || is_edge_of c fs (edge_name n))
unfolding edges_reached
among_edges c es fs n =
    let sides : FaceName → List ℕ = λ f. side_numbers (at c.faces f.0) in
    list_any-append (λ m. eqb m n) (edge_numbers es) (flat_map sides fs)
    ∙ ap (λ (b : Bool). b || list_any (λ m. eqb m n) (flat_map sides fs))
    (number_among (λ (e : EdgeName). e.0) edge_name (λ k. refl) (λ e. refl) es n)
    ∙ ap (λ (b : Bool). is_edge_among es (edge_name n) || b)
    (among_flat sides (λ f. passes (uses_edge (edge_name n)) (at c.faces f.0)) n
    (λ f. among_sides n (at c.faces f.0)) fs)

pub among_verts : (c : Complex) (vs : List VertName) (es : List EdgeName) (n : ℕ)
    → list_any (λ m. eqb m n) (verts_reached c vs es)
    ≡ (is_among vs (vert_name n) || is_end_of c es (vert_name n))
unfolding verts_reached
among_verts c vs es n =
    let ends : EdgeName → List ℕ = λ e. end_numbers (at c.edges e.0) in
    list_any-append (λ m. eqb m n) (vert_numbers vs) (flat_map ends es)
    ∙ ap (λ (b : Bool). b || list_any (λ m. eqb m n) (flat_map ends es))
    (number_among (λ (v : VertName). v.0) vert_name (λ k. refl) (λ v. refl) vs n)
    ∙ ap (λ (b : Bool). is_among vs (vert_name n) || b)
    (among_flat ends (λ e. passes (has_end (vert_name n)) (at c.edges e.0)) n
    (λ e. among_ends n (at c.edges e.0)) es)

-- ---- THE CLOSURE

-- the edges of faces that are linked are there
edge_there : (c : Complex) → IsLinked c → (fs : List FaceName) (e : EdgeName) → is_edge_of c fs e ≡ true
    → IsThere c.edges e.0
edge_there c linked fs e h =
    list_any-elim (IsThere c.edges e.0) (λ (f : FaceName). passes (uses_edge e) (at c.faces f.0)) fs
    (λ k d less uses. of_face (get_or fs k d).0 (at c.faces (get_or fs k d).0) refl uses) h
  where
    of_face : (n : ℕ) (o : Option FaceRec) → at c.faces n ≡ o → passes (uses_edge e) o ≡ true → IsThere c.edges e.0
    of_face n None is uses = absurd (cc)
    of_face n (Some f) is uses = list_any-elim (IsThere c.edges e.0) (is_along e) f.corners
        (λ i q less along. subst (λ (m : ℕ). IsThere c.edges m) (eqb-true (get_or f.corners i q).edge.0 e.0 along)
        ((linked.faces n f is).corners i q less).edge) uses

-- the ends of edges that are linked are there
end_there : (c : Complex) → IsLinked c → (es : List EdgeName) (v : VertName) → is_end_of c es v ≡ true
    → IsThere c.verts v.0
end_there c linked es v h =
    list_any-elim (IsThere c.verts v.0) (λ (e : EdgeName). passes (has_end v) (at c.edges e.0)) es
    (λ k d less ends. of_edge (get_or es k d).0 (at c.edges (get_or es k d).0) refl ends) h
  where
    of_edge : (n : ℕ) (o : Option EdgeRec) → at c.edges n ≡ o → passes (has_end v) o ≡ true → IsThere c.verts v.0
    of_edge n None is ends = absurd (cc)
    of_edge n (Some e) is ends = elim (or_cases (eqb e.a.0 v.0) (eqb e.b.0 v.0) ends) [
      | inl a ↦ subst (λ (m : ℕ). IsThere c.verts m) (eqb-true e.a.0 v.0 a) (linked.edges n e is).a
      | inr b ↦ subst (λ (m : ℕ). IsThere c.verts m) (eqb-true e.b.0 v.0 b) (linked.edges n e is).b
    ]

-- the faces of the closure of a set of live elements are those of the set
pub faces_closed : (c : Complex) (x : Elements) → AreLive c x → is_rising (face_numbers x.faces) ≡ true
    → map face_name (face_numbers x.faces) ≡ closure_faces c x
faces_closed c x live rising =
    names_passing (λ (f : FaceName). f.0) face_name (λ n. refl) (λ f. refl) (is_face_among x.faces) (length c.faces)
    (face_numbers x.faces) rising
    (number_among (λ (f : FaceName). f.0) face_name (λ n. refl) (λ f. refl) x.faces)
    (λ f among. there-below c.faces f.0 (face_among-All (λ (y : FaceName). IsThere c.faces y.0) x.faces f live.faces among))

-- its edges are those that are reached
pub edges_closed : (c : Complex) (x : Elements) (ns : List ℕ) → IsLinked c → AreLive c x → is_rising ns ≡ true
    → ((n : ℕ) → list_any (λ m. eqb m n) ns ≡ list_any (λ m. eqb m n) (edges_reached c x.edges x.faces))
    → map edge_name ns ≡ closure_edges c x
edges_closed c x ns linked live rising members =
    names_passing (λ (e : EdgeName). e.0) edge_name (λ n. refl) (λ e. refl)
    (λ e. is_edge_among x.edges e || is_edge_of c x.faces e) (length c.edges) ns rising
    (λ n. members n ∙ among_edges c x.edges x.faces n)
    (λ e among. there-below c.edges e.0 (elim (or_cases (is_edge_among x.edges e) (is_edge_of c x.faces e) among) [
      | inl own ↦ edge_among-All (λ (y : EdgeName). IsThere c.edges y.0) x.edges e live.edges own
      | inr of_face ↦ edge_there c linked x.faces e of_face
    ]))

-- and so are its vertices
pub verts_closed : (c : Complex) (x : Elements) (ns : List ℕ) → IsLinked c → AreLive c x → is_rising ns ≡ true
    → ((n : ℕ) → list_any (λ m. eqb m n) ns ≡ list_any (λ m. eqb m n) (verts_reached c x.verts (closure_edges c x)))
    → map vert_name ns ≡ closure_verts c x
verts_closed c x ns linked live rising members =
    names_passing (λ (v : VertName). v.0) vert_name (λ n. refl) (λ v. refl)
    (λ v. is_among x.verts v || is_end_of c (closure_edges c x) v) (length c.verts) ns rising
    (λ n. members n ∙ among_verts c x.verts (closure_edges c x) n)
    (λ v among. there-below c.verts v.0 (elim (or_cases (is_among x.verts v) (is_end_of c (closure_edges c x) v) among) [
      | inl own ↦ vert_among-All (λ (y : VertName). IsThere c.verts y.0) x.verts v live.verts own
      | inr end ↦ end_there c linked (closure_edges c x) v end
    ]))

-- the numbers of the edges along corners that are read as pairs
pub sides_named : (ks : List CornerRec)
    → map (λ (k : VertName × EdgeName). k.1.0) (map (λ (k : CornerRec). (k.vert, k.edge)) ks)
    ≡ map (λ (k : CornerRec). k.edge.0) ks
sides_named [] = refl
sides_named (k ∷ ks) = ap (λ (ns : List ℕ). k.edge.0 ∷ ns) (sides_named ks)

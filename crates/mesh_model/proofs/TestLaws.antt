-- The tests of a complex show whether it is linked, valid and simple.
use Rattle.std.proofs.Common.{◌≡◌, ℕ, zero, suc, Bool, true, false, not, ◌&&◌, IsTrue, List, [], ◌∷◌, length, get_or}
use Rattle.std.proofs.Common.{refl, sym, ap, ◌∙◌, arith, Option, Some, None, is_some, AllPairs, nat_le, nat_lt, nat_eq}
use Rattle.std.specs.List.{list_all, list_any}
use Rattle.std.proofs.lemmas.Bool.{and_parts, and_from, not-true, not_from_false, false_from_ne_true, true≢false}
use Rattle.std.proofs.lemmas.List.{get_or_default}
use Rattle.std.proofs.lemmas.List.Folds.{list_any_at, list_any_none}
use Rattle.cust_data.specs.Layers.{Layer, same_name, is_layer_name, is_width, AreLayers}
use Rattle.mesh_model.specs.Table.{at, passes, allows}
use Rattle.mesh_model.specs.Complex.{KindLayers, Complex, width, corner_sum, counters_of, verts_of, material_layer}
use Rattle.mesh_model.specs.Complex.{smooth_layer}
use Rattle.mesh_model.specs.Values.{number_in}
use Rattle.mesh_model.specs.Incidence.{joins}
use Rattle.mesh_model.specs.Valid.{is_in_range, is_on_grid, are_distinct, is_closed, is_material, is_smooth}
use Rattle.mesh_model.specs.Valid.{AreKindLayers, IsVertLinked, IsEdgeLinked, IsCornerLinked, IsFaceLinked, IsLinked}
use Rattle.mesh_model.specs.Valid.{IsPolygon, IsVertValid, IsEdgeValid, IsCornerValid, IsFaceValid, IsWithinLimits}
use Rattle.mesh_model.specs.Valid.{IsValid, IsSimple, IsSound}
use Rattle.mesh_model.specs.Tests.{are_named_apart, are_layers, are_kind_layers, is_vert_linked, is_edge_linked}
use Rattle.mesh_model.specs.Tests.{is_corner_linked, is_face_linked, is_linked, is_side_count, is_polygon}
use Rattle.mesh_model.specs.Tests.{is_vert_valid, is_edge_valid, is_corner_valid, is_face_valid, are_within_limits}
use Rattle.mesh_model.specs.Tests.{is_valid, joins_none, are_simple, is_simple, is_sound}
use Rattle.mesh_model.specs.declared.limits.TheConstants.{MAX_VERTS, MAX_EDGES, MAX_FACES, MAX_CORNERS, MIN_SIDES}
use Rattle.mesh_model.specs.declared.limits.TheConstants.{MAX_SIDES}
use Rattle.mesh_model.specs.declared.names.Kind.TheVariants.{Verts, Edges, Corners, Faces}
use Rattle.mesh_model.specs.declared.records.VertRec.{VertRec}
use Rattle.mesh_model.specs.declared.records.EdgeRec.{EdgeRec}
use Rattle.mesh_model.specs.declared.records.CornerRec.{CornerRec}
use Rattle.mesh_model.specs.declared.records.FaceRec.{FaceRec}
use Rattle.mesh_model.proofs.Shown.{Shows, itself, shows_eq, shows_ne, shows_le, shows_lt, shows_both, shows_as}
use Rattle.mesh_model.proofs.Shown.{shows_all, shows_each}
use Rattle.mesh_model.proofs.Lists.{list_all-All, All-list_all}
use Rattle.mesh_model.proofs.Tables.{at-below}
use Rattle.mesh_model.proofs.Edges.{joins-symm}

-- ---- LINKED

abbrev AreNamedApart : List Layer → Type 0
AreNamedApart layers = AllPairs (λ (k l : Layer). same_name k.name l.name ≡ false) layers

apart_from : (layers : List Layer) → are_named_apart layers ≡ true → AreNamedApart layers
apart_from [] h i j d less within = absurd (omega arith)
apart_from (l ∷ ls) h zero zero d less within = absurd (omega arith)
apart_from (l ∷ ls) h zero (suc j) d less within =
    not-true (same_name l.name (get_or ls j d).name)
    (list_all-All (λ (m : Layer). not (same_name l.name m.name)) ls
    (and_parts (list_all (λ (m : Layer). not (same_name l.name m.name)) ls) (are_named_apart ls) h).0 j d
    (omega arith))
apart_from (l ∷ ls) h (suc i) zero d less within = absurd (omega arith)
apart_from (l ∷ ls) h (suc i) (suc j) d less within =
    apart_from ls (and_parts (list_all (λ (m : Layer). not (same_name l.name m.name)) ls) (are_named_apart ls) h).1 i j
    d (omega arith) (omega arith)

apart_to : (layers : List Layer) → AreNamedApart layers → are_named_apart layers ≡ true
apart_to [] h = refl
apart_to (l ∷ ls) h = and_from (list_all (λ (m : Layer). not (same_name l.name m.name)) ls) (are_named_apart ls)
    (All-list_all (λ (m : Layer). not (same_name l.name m.name)) ls
    (λ k d less. not_from_false (same_name l.name (get_or ls k d).name)
    (h 0 (suc k) d (omega arith) (omega arith))))
    (apart_to ls (λ i j d less within. h (suc i) (suc j) d (omega arith) (omega arith)))

shows_layers : (layers : List Layer) → Shows (are_layers layers) (AreLayers layers)
shows_layers layers =
    let named : Layer → Bool = λ l. is_layer_name l.name && is_width l.width in
    let each = shows_all (λ (l : Layer). IsTrue (is_layer_name l.name) × IsTrue (is_width l.width)) named layers
    (λ l. shows_both (is_layer_name l.name) (is_width l.width) (itself (is_layer_name l.name))
    (itself (is_width l.width))) in
    let names : Shows (are_named_apart layers) (AreNamedApart layers) = (apart_from layers, apart_to layers) in
    let rest = shows_both (list_all named layers) (are_named_apart layers) each names in
    shows_as (are_layers layers)
    (shows_both (nat_le (length layers) 16) (list_all named layers && are_named_apart layers)
    (shows_le (length layers) 16) rest)
    (λ t. record {
      few = t.0;
      named = λ k d less. (t.1.0 k d less).0;
      distinct = t.1.1;
      widths =
          λ k d less. (t.1.0 k d less).1;
    })
    (λ r. (r.few, (λ k d less. (r.named k d less, r.widths k d less), r.distinct)))

shows_kind_layers : (layers : KindLayers) → Shows (are_kind_layers layers) (AreKindLayers layers)
shows_kind_layers layers =
    let faces = shows_both (are_layers layers.corners) (are_layers layers.faces) (shows_layers layers.corners)
    (shows_layers layers.faces) in
    let edges = shows_both (are_layers layers.edges) (are_layers layers.corners && are_layers layers.faces)
    (shows_layers layers.edges) faces in
    shows_as (are_kind_layers layers)
    (shows_both (are_layers layers.verts)
    (are_layers layers.edges && (are_layers layers.corners && are_layers layers.faces)) (shows_layers layers.verts)
    edges)
    (λ t. record { verts = t.0; edges = t.1.0; corners = t.1.1.0; faces = t.1.1.1 })
    (λ r. (r.verts, (r.edges, (r.corners, r.faces))))

shows_vert_linked : (c : Complex) (r : VertRec) → Shows (is_vert_linked c r) (IsVertLinked c r)
shows_vert_linked c r =
    shows_as (is_vert_linked c r) (shows_eq (length r.vals) (width c Verts)) (λ h. record { vals = h }) (λ l. l.vals)

shows_edge_linked : (c : Complex) (e : EdgeRec) → Shows (is_edge_linked c e) (IsEdgeLinked c e)
shows_edge_linked c e =
    let differ = shows_both (not (nat_eq e.a.0 e.b.0)) (nat_eq (length e.vals) (width c Edges)) (shows_ne e.a.0 e.b.0)
    (shows_eq (length e.vals) (width c Edges)) in
    let b = shows_both (is_some (at c.verts e.b.0)) (not (nat_eq e.a.0 e.b.0) && nat_eq (length e.vals) (width c Edges))
    (itself (is_some (at c.verts e.b.0))) differ in
    shows_as (is_edge_linked c e)
    (shows_both (is_some (at c.verts e.a.0)) (is_some (at c.verts e.b.0)
    && (not (nat_eq e.a.0 e.b.0) && nat_eq (length e.vals) (width c Edges))) (itself (is_some (at c.verts e.a.0)))
    b)
    (λ t. record { a = t.0; b = t.1.0; differ = t.1.1.0; vals = t.1.1.1 }) (λ l. (l.a, (l.b, (l.differ, l.vals))))

shows_corner_linked : (c : Complex) (k : CornerRec) → Shows (is_corner_linked c k) (IsCornerLinked c k)
shows_corner_linked c k =
    let edge = shows_both (is_some (at c.edges k.edge.0)) (nat_eq (length k.vals) (width c Corners))
    (itself (is_some (at c.edges k.edge.0))) (shows_eq (length k.vals) (width c Corners)) in
    shows_as (is_corner_linked c k)
    (shows_both (is_some (at c.verts k.vert.0)) (is_some (at c.edges k.edge.0)
    && nat_eq (length k.vals) (width c Corners)) (itself (is_some (at c.verts k.vert.0))) edge)
    (λ t. record { vert = t.0; edge = t.1.0; vals = t.1.1 }) (λ l. (l.vert, (l.edge, l.vals)))

shows_face_linked : (c : Complex) (f : FaceRec) → Shows (is_face_linked c f) (IsFaceLinked c f)
shows_face_linked c f =
    let corners = shows_both (list_all (is_corner_linked c) f.corners) (nat_eq (length f.vals) (width c Faces))
    (shows_all (IsCornerLinked c) (is_corner_linked c) f.corners (shows_corner_linked c))
    (shows_eq (length f.vals) (width c Faces)) in
    shows_as (is_face_linked c f)
    (shows_both (nat_lt 0 (length f.corners)) (list_all (is_corner_linked c) f.corners
    && nat_eq (length f.vals) (width c Faces)) (shows_lt 0 (length f.corners)) corners)
    (λ t. record { some = t.0; corners = t.1.0; vals = t.1.1 }) (λ l. (l.some, (l.corners, l.vals)))

pub shows_linked : (c : Complex) → Shows (is_linked c) (IsLinked c)
shows_linked c =
    let verts = shows_each (IsVertLinked c) (is_vert_linked c) c.verts (shows_vert_linked c) in
    let edges = shows_each (IsEdgeLinked c) (is_edge_linked c) c.edges (shows_edge_linked c) in
    let faces = shows_each (IsFaceLinked c) (is_face_linked c) c.faces (shows_face_linked c) in
    let two = shows_both (list_all (allows (is_edge_linked c)) c.edges) (list_all (allows (is_face_linked c)) c.faces)
    edges faces in
    let three = shows_both (list_all (allows (is_vert_linked c)) c.verts) (list_all (allows (is_edge_linked c)) c.edges
    && list_all (allows (is_face_linked c)) c.faces) verts two in
    shows_as (is_linked c)
    (shows_both (are_kind_layers c.layers) (list_all (allows (is_vert_linked c)) c.verts
    && (list_all (allows (is_edge_linked c)) c.edges && list_all (allows (is_face_linked c)) c.faces))
    (shows_kind_layers c.layers) three)
    (λ t. record { layers = t.0; verts = t.1.0; edges = t.1.1.0; faces = t.1.1.1 })
    (λ l. (l.layers, (l.verts, (l.edges, l.faces))))

-- ---- VALID

shows_polygon : (edges : List (Option EdgeRec)) (ks : List CornerRec) → Shows (is_polygon edges ks) (IsPolygon edges ks)
shows_polygon edges ks =
    let count = shows_both (nat_le MIN_SIDES (length ks)) (nat_le (length ks) MAX_SIDES)
    (shows_le MIN_SIDES (length ks)) (shows_le (length ks) MAX_SIDES) in
    let polygon = shows_both (are_distinct (verts_of ks)) (is_closed edges ks) (itself (are_distinct (verts_of ks)))
    (itself (is_closed edges ks)) in
    shows_as (is_polygon edges ks)
    (shows_both (is_side_count (length ks)) (are_distinct (verts_of ks) && is_closed edges ks) count polygon)
    (λ t. record { least = t.0.0; most = t.0.1; distinct = t.1.0; closed = t.1.1 })
    (λ r. ((r.least, r.most), (r.distinct, r.closed)))

shows_vert_valid : (r : VertRec) → Shows (is_vert_valid r) (IsVertValid r)
shows_vert_valid r =
    shows_as (is_vert_valid r)
    (shows_both (is_on_grid r.point) (list_all is_in_range r.vals) (itself (is_on_grid r.point))
    (itself (list_all is_in_range r.vals)))
    (λ t. record { point = t.0; vals = t.1 }) (λ v. (v.point, v.vals))

shows_edge_valid : (e : EdgeRec) → Shows (is_edge_valid e) (IsEdgeValid e)
shows_edge_valid e =
    shows_as (is_edge_valid e) (itself (list_all is_in_range e.vals)) (λ h. record { vals = h }) (λ v. v.vals)

shows_corner_valid : (k : CornerRec) → Shows (is_corner_valid k) (IsCornerValid k)
shows_corner_valid k =
    shows_as (is_corner_valid k) (itself (list_all is_in_range k.vals)) (λ h. record { vals = h }) (λ v. v.vals)

shows_face_valid : (c : Complex) (f : FaceRec) → Shows (is_face_valid c f) (IsFaceValid c f)
shows_face_valid c f =
    let material = allows (is_material c) (number_in c.layers.faces material_layer f.vals) in
    let smooth = allows is_smooth (number_in c.layers.faces smooth_layer f.vals) in
    let numbers = shows_both material smooth (itself material) (itself smooth) in
    let vals = shows_both (list_all is_in_range f.vals) (material && smooth) (itself (list_all is_in_range f.vals))
    numbers in
    let corners = shows_both (list_all is_corner_valid f.corners) (list_all is_in_range f.vals && (material && smooth))
    (shows_all IsCornerValid is_corner_valid f.corners shows_corner_valid) vals in
    shows_as (is_face_valid c f)
    (shows_both (is_polygon c.edges f.corners) (list_all is_corner_valid f.corners
    && (list_all is_in_range f.vals && (material && smooth))) (shows_polygon c.edges f.corners) corners)
    (λ t. record { polygon = t.0; corners = t.1.0; vals = t.1.1.0; material = t.1.1.1.0; smooth = t.1.1.1.1 })
    (λ v. (v.polygon, (v.corners, (v.vals, (v.material, v.smooth)))))

pub shows_limits : (c : Complex) → Shows (are_within_limits (counters_of c)) (IsWithinLimits c)
shows_limits c =
    let faces = shows_both (nat_le (length c.faces) MAX_FACES) (nat_le (corner_sum c.faces) MAX_CORNERS)
    (shows_le (length c.faces) MAX_FACES) (shows_le (corner_sum c.faces) MAX_CORNERS) in
    let edges = shows_both (nat_le (length c.edges) MAX_EDGES) (nat_le (length c.faces) MAX_FACES
    && nat_le (corner_sum c.faces) MAX_CORNERS) (shows_le (length c.edges) MAX_EDGES) faces in
    shows_as (are_within_limits (counters_of c))
    (shows_both (nat_le (length c.verts) MAX_VERTS) (nat_le (length c.edges) MAX_EDGES
    && (nat_le (length c.faces) MAX_FACES && nat_le (corner_sum c.faces) MAX_CORNERS))
    (shows_le (length c.verts) MAX_VERTS) edges)
    (λ t. record { verts = t.0; edges = t.1.0; faces = t.1.1.0; corners = t.1.1.1 })
    (λ l. (l.verts, (l.edges, (l.faces, l.corners))))

pub shows_valid : (c : Complex) → Shows (is_valid c) (IsValid c)
shows_valid c =
    let verts = shows_each IsVertValid is_vert_valid c.verts shows_vert_valid in
    let edges = shows_each IsEdgeValid is_edge_valid c.edges shows_edge_valid in
    let faces = shows_each (IsFaceValid c) (is_face_valid c) c.faces (shows_face_valid c) in
    let two = shows_both (list_all (allows (is_face_valid c)) c.faces) (are_within_limits (counters_of c)) faces
    (shows_limits c) in
    let three = shows_both (list_all (allows is_edge_valid) c.edges) (list_all (allows (is_face_valid c)) c.faces
    && are_within_limits (counters_of c)) edges two in
    let four = shows_both (list_all (allows is_vert_valid) c.verts) (list_all (allows is_edge_valid) c.edges
    && (list_all (allows (is_face_valid c)) c.faces && are_within_limits (counters_of c))) verts three in
    shows_as (is_valid c)
    (shows_both (is_linked c) (list_all (allows is_vert_valid) c.verts
    && (list_all (allows is_edge_valid) c.edges
    && (list_all (allows (is_face_valid c)) c.faces && are_within_limits (counters_of c)))) (shows_linked c) four)
    (λ t. record { linked = t.0; verts = t.1.0; edges = t.1.1.0; faces = t.1.1.1.0; limits = t.1.1.1.1 })
    (λ v. (v.linked, (v.verts, (v.edges, (v.faces, v.limits)))))

-- ---- SIMPLE

abbrev AreSimple : List (Option EdgeRec) → Type 0
AreSimple edges = (m n : ℕ) (d e : EdgeRec) → at edges m ≡ Some d → at edges n ≡ Some e → IsTrue (joins d.a d.b e)
    → m ≡ n

none_behind : (os : List (Option EdgeRec)) (o : Option EdgeRec) (d : EdgeRec) (n : ℕ) (e : EdgeRec)
    → allows (joins_none os) o ≡ true → o ≡ Some d → at os n ≡ Some e → joins d.a d.b e ≡ true → ⊥
none_behind os None d n e none is at_n same = absurd (cc)
none_behind os (Some x) d n e none is at_n same =
    let it : x ≡ d = (cc) in
    let here : passes (joins x.a x.b) (at os n) ≡ true = ap (passes (joins x.a x.b)) at_n
    ∙ ap (λ (y : EdgeRec). joins y.a y.b e) it ∙ same in
    true≢false (sym (list_any_at (passes (joins x.a x.b)) os n None (at-below os n e at_n) here)
    ∙ not-true (list_any (passes (joins x.a x.b)) os) none)

simple_from : (edges : List (Option EdgeRec)) → are_simple edges ≡ true → AreSimple edges
simple_from [] h m n d e at_m at_n same = absurd (cc)
simple_from (o ∷ os) h zero zero d e at_m at_n same = refl
simple_from (o ∷ os) h zero (suc n) d e at_m at_n same =
    absurd (none_behind os o d n e (and_parts (allows (joins_none os) o) (are_simple os) h).0 at_m at_n same)
simple_from (o ∷ os) h (suc m) zero d e at_m at_n same =
    absurd (none_behind os o e m d (and_parts (allows (joins_none os) o) (are_simple os) h).0 at_n at_m
    (sym (joins-symm d e) ∙ same))
simple_from (o ∷ os) h (suc m) (suc n) d e at_m at_n same =
    ap (λ (k : ℕ). suc k)
    (simple_from os (and_parts (allows (joins_none os) o) (are_simple os) h).1 m n d e at_m at_n same)

not_passing : (test : EdgeRec → Bool) (o : Option EdgeRec) → ((e : EdgeRec) → o ≡ Some e → test e ≡ true → ⊥)
    → passes test o ≡ false
not_passing test None h = refl
not_passing test (Some e) h = false_from_ne_true (test e) (h e refl)

first_alone : (os : List (Option EdgeRec)) (o : Option EdgeRec)
    → ((d : EdgeRec) (n : ℕ) (e : EdgeRec) → o ≡ Some d → at os n ≡ Some e → joins d.a d.b e ≡ true → ⊥)
    → allows (joins_none os) o ≡ true
first_alone os None h = refl
first_alone os (Some d) h = not_from_false (list_any (passes (joins d.a d.b)) os)
    (list_any_none (passes (joins d.a d.b)) os
    (λ k q less. ap (passes (joins d.a d.b)) (get_or_default os k q None less)
    ∙ not_passing (joins d.a d.b) (at os k) (λ e is same. h d k e refl is same)))

simple_to : (edges : List (Option EdgeRec)) → AreSimple edges → are_simple edges ≡ true
simple_to [] h = refl
simple_to (o ∷ os) h = and_from (allows (joins_none os) o) (are_simple os)
    (first_alone os o (λ d n e is at_n same. let one : 0 ≡ suc n = h 0 (suc n) d e is at_n same in omega arith))
    (simple_to os (λ m n d e at_m at_n same. let one : suc m ≡ suc n = h (suc m) (suc n) d e at_m at_n same in
    omega arith))

pub shows_simple : (c : Complex) → Shows (is_simple c) (IsSimple c)
shows_simple c = (simple_from c.edges, simple_to c.edges)

-- ---- SOUND

pub shows_sound : (c : Complex) → Shows (is_sound c) (IsSound c)
shows_sound c = shows_as (is_sound c) (shows_both (is_valid c) (is_simple c) (shows_valid c) (shows_simple c))
    (λ t. record { valid = t.0; simple = t.1 }) (λ s. (s.valid, s.simple))

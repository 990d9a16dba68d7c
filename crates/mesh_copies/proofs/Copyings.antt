-- Elements copied, one after another, as one change.
use Rattle.std.proofs.Common.{◌≡◌, ℕ, zero, suc, ◌+◌, ◌*◌, ◌<◌, ◌≤◌, ℤ, List, [], ◌∷◌, ◌++◌, length, map, take, drop, get_or, refl, sym}
use Rattle.std.proofs.Common.{ap, ◌∙◌, arith, append_assoc, append-nil, Option, Some, None, is_some, All}
use Rattle.std.specs.Option.{option_map}
use Rattle.std.proofs.Math.Nat.{suc-mul, zero-mul}
use Rattle.std.proofs.lemmas.List.{take_more, get_or-map, take_at, drop_at, drop-drop, map-append, length-map, length-append}
use Rattle.std.proofs.lemmas.List.Elements.{All-head, All-tail}
use Rattle.std.proofs.lemmas.List.Sums.{sum_by-cons}
use Rattle.std.specs.List.{flat_map}
use Rattle.mesh_model.specs.Table.{at, update, IsThere}
use Rattle.mesh_model.specs.Complex.{Complex, corner_sum, corners_of}
use Rattle.mesh_model.specs.Kernel.{with_vert_like, with_edge_like, with_face_like, with_corners, corner_from}
use Rattle.mesh_model.specs.Kernel.{face_vals_like}
use Rattle.mesh_model.specs.Valid.{IsEdgeLinked, IsFaceLinked, IsCornerLinked}
use Rattle.mesh_model.specs.declared.names.VertName.{VertName}
use Rattle.mesh_model.specs.declared.names.EdgeName.{EdgeName}
use Rattle.mesh_model.specs.declared.names.FaceName.{FaceName}
use Rattle.mesh_model.specs.declared.records.Point.{Point}
use Rattle.mesh_model.specs.declared.records.VertRec.{VertRec}
use Rattle.mesh_model.specs.declared.records.EdgeRec.{EdgeRec}
use Rattle.mesh_model.specs.declared.records.CornerRec.{CornerRec}
use Rattle.mesh_model.specs.declared.records.FaceRec.{FaceRec}
use Rattle.mesh_model.proofs.CornerSums.{corner_sum-append}
use Rattle.mesh_model.proofs.Reading.{AreWide, length-rows}
use Rattle.mesh_model.proofs.Tables.{at-append_new}
use Rattle.op_slots.specs.Mapping.{sources}
use Rattle.op_slots.specs.declared.mapping.Pair.{Pair}
use Rattle.mesh_copies.specs.Copying.{copied_edge, copied_corner, copied_face}
use Rattle.mesh_copies.specs.CopyingSteps.{with_vert_copies, with_edge_copies, with_face_copies}
use Rattle.mesh_copies.specs.CopyingSteps.{IsEdgeCopyLinked, IsFaceCopyLinked, corners_in}
use Rattle.mesh_copies.proofs.Appended.{at-old_there}

-- ---- TABLES

-- one copy more, read off the table so far
table_more : {N X : Type 0} (num : N → ℕ) (f : Option X → Option X) (t : List (Option X)) (ns : List N) (i : ℕ) (d : N)
    → i < length ns → IsThere t (num (get_or ns i d))
    → (t ++ map (λ x. f (at t (num x))) (take i ns)) ++ f (at (t ++ map (λ x. f (at t (num x))) (take i ns))
    (num (get_or ns i d))) ∷ [] ≡ t ++ map (λ x. f (at t (num x))) (take (i + 1) ns)
table_more {N = N} {X = X} num f t ns i d less there =
    let g : N → Option X = λ x. f (at t (num x)) in
    let x = get_or ns i d in
    let front = map g (take i ns) in
    ap (λ (o : Option X). (t ++ front) ++ f o ∷ []) (at-old_there t front (num x) there)
    ∙ append_assoc t front (g x ∷ [])
    ∙ ap (λ (rest : List (Option X)). t ++ rest) (sym (map-append g (take i ns) (x ∷ []))
    ∙ ap (map g) (sym (take_more ns i d less)))

-- ---- VERTICES

pub verts_none : (c : Complex) → with_vert_copies c [] ≡ c
unfolding with_vert_copies
verts_none c = ap (λ (t : List (Option VertRec)). record c { verts = t }) (append-nil c.verts)

pub verts_more : (c : Complex) (vs : List VertName) (i : ℕ) (d : VertName) → i < length vs
    → IsThere c.verts (get_or vs i d).0
    → with_vert_copies (with_vert_copies c (take i vs)) (get_or vs i d ∷ []) ≡ with_vert_copies c (take (i + 1) vs)
unfolding with_vert_copies
verts_more c vs i d less there = ap (λ (t : List (Option VertRec)). record c { verts = t })
    (table_more (λ (v : VertName). v.0) (λ o. o) c.verts vs i d less there)

pub verts_live : (c : Complex) (vs ws : List VertName) (v : VertName) → IsThere c.verts v.0
    → IsThere (with_vert_copies c ws).verts v.0
unfolding with_vert_copies
verts_live c vs ws v there =
    ap is_some (at-old_there c.verts (map (λ (w : VertName). at c.verts w.0) ws) v.0 there) ∙ there

pub verts_long : (c : Complex) (vs : List VertName) → length (with_vert_copies c vs).verts ≡ length c.verts + length vs
unfolding with_vert_copies
verts_long c vs = length-append c.verts (map (λ (v : VertName). at c.verts v.0) vs)
    ∙ ap (λ (k : ℕ). length c.verts + k) (length-map vs (λ (v : VertName). at c.verts v.0))

one_vert : (c : Complex) (p : Point) (v : VertName) (o : Option VertRec) → at c.verts v.0 ≡ o
    → option_map (λ (r : VertRec). r.point) o ≡ Some p → with_vert_like c p (Some v) ≡ with_vert_copies c (v ∷ [])
unfolding with_vert_copies
one_vert c p v None is point = absurd (cc)
one_vert c p v (Some r) is point = let same : r.point ≡ p = cc in
    rw (is, ← same) refl

-- a vertex made at a vertex's point with its values is its copy
pub vert_made : (c : Complex) (p : Point) (v : VertName)
    → option_map (λ (r : VertRec). r.point) (at c.verts v.0) ≡ Some p
    → with_vert_like c p (Some v) ≡ with_vert_copies c (v ∷ [])
vert_made c p v point = one_vert c p v (at c.verts v.0) refl point

-- ---- EDGES

pub edges_none : (rv : VertName → VertName) (c : Complex) → with_edge_copies rv c [] ≡ c
unfolding with_edge_copies
edges_none rv c = ap (λ (t : List (Option EdgeRec)). record c { edges = t }) (append-nil c.edges)

pub edges_more : (rv : VertName → VertName) (c : Complex) (es : List EdgeName) (i : ℕ) (d : EdgeName) → i < length es
    → IsThere c.edges (get_or es i d).0
    → with_edge_copies rv (with_edge_copies rv c (take i es)) (get_or es i d ∷ [])
    ≡ with_edge_copies rv c (take (i + 1) es)
unfolding with_edge_copies
edges_more rv c es i d less there = ap (λ (t : List (Option EdgeRec)). record c { edges = t })
    (table_more (λ (e : EdgeName). e.0) (option_map (copied_edge rv)) c.edges es i d less there)

edges_at : (rv : VertName → VertName) (c : Complex) (es : List EdgeName) (e : EdgeName) → IsThere c.edges e.0
    → at (with_edge_copies rv c es).edges e.0 ≡ at c.edges e.0
unfolding with_edge_copies
edges_at rv c es e there =
    at-old_there c.edges (map (λ (x : EdgeName). option_map (copied_edge rv) (at c.edges x.0)) es) e.0 there

pub edges_live : (rv : VertName → VertName) (c : Complex) (es : List EdgeName) (e : EdgeName) → IsThere c.edges e.0
    → IsThere (with_edge_copies rv c es).edges e.0
edges_live rv c es e there = ap is_some (edges_at rv c es e there) ∙ there

pub edges_long : (rv : VertName → VertName) (c : Complex) (es : List EdgeName)
    → length (with_edge_copies rv c es).edges ≡ length c.edges + length es
unfolding with_edge_copies
edges_long rv c es =
    let g : EdgeName → Option EdgeRec = λ e. option_map (copied_edge rv) (at c.edges e.0) in
    length-append c.edges (map g es) ∙ ap (λ (k : ℕ). length c.edges + k) (length-map es g)

edge_linked : (rv : VertName → VertName) (c : Complex) (es : List EdgeName) (r : EdgeRec) → IsEdgeLinked c r
    → IsEdgeLinked (with_edge_copies rv c es) r
unfolding with_edge_copies
edge_linked rv c es r l = record { a = l.a; b = l.b; differ = l.differ; vals = l.vals }

-- a copy is linked still after others
pub edges_linked : (rv : VertName → VertName) (c : Complex) (es : List EdgeName) (e : EdgeName) → IsThere c.edges e.0
    → IsEdgeCopyLinked rv c e → IsEdgeCopyLinked rv (with_edge_copies rv c es) e
edges_linked rv c es e there linked r is =
    edge_linked rv c es (copied_edge rv r) (linked r (sym (edges_at rv c es e there) ∙ is))

-- an edge between the copies of an edge's ends with its values is its copy
pub edge_made : (rv : VertName → VertName) (c : Complex) (e : EdgeName) (r : EdgeRec) → at c.edges e.0 ≡ Some r
    → with_edge_like c (rv r.a) (rv r.b) (Some e) ≡ with_edge_copies rv c (e ∷ [])
unfolding with_edge_copies
edge_made rv c e r is = rw is refl

-- ---- FACES

pub faces_none : (rv : VertName → VertName) (re : EdgeName → EdgeName) (c : Complex) → with_face_copies rv re c [] ≡ c
unfolding with_face_copies
faces_none rv re c = ap (λ (t : List (Option FaceRec)). record c { faces = t }) (append-nil c.faces)

pub faces_more : (rv : VertName → VertName) (re : EdgeName → EdgeName) (c : Complex) (fs : List FaceName) (i : ℕ)
    (d : FaceName) → i < length fs → IsThere c.faces (get_or fs i d).0
    → with_face_copies rv re (with_face_copies rv re c (take i fs)) (get_or fs i d ∷ [])
    ≡ with_face_copies rv re c (take (i + 1) fs)
unfolding with_face_copies
faces_more rv re c fs i d less there = ap (λ (t : List (Option FaceRec)). record c { faces = t })
    (table_more (λ (f : FaceName). f.0) (option_map (copied_face rv re)) c.faces fs i d less there)

pub faces_at : (rv : VertName → VertName) (re : EdgeName → EdgeName) (c : Complex) (fs : List FaceName) (f : FaceName)
    → IsThere c.faces f.0 → at (with_face_copies rv re c fs).faces f.0 ≡ at c.faces f.0
unfolding with_face_copies
faces_at rv re c fs f there =
    at-old_there c.faces (map (λ (x : FaceName). option_map (copied_face rv re) (at c.faces x.0)) fs) f.0 there

pub faces_live : (rv : VertName → VertName) (re : EdgeName → EdgeName) (c : Complex) (fs : List FaceName) (f : FaceName)
    → IsThere c.faces f.0 → IsThere (with_face_copies rv re c fs).faces f.0
faces_live rv re c fs f there = ap is_some (faces_at rv re c fs f there) ∙ there

pub faces_long : (rv : VertName → VertName) (re : EdgeName → EdgeName) (c : Complex) (fs : List FaceName)
    → length (with_face_copies rv re c fs).faces ≡ length c.faces + length fs
unfolding with_face_copies
faces_long rv re c fs =
    let g : FaceName → Option FaceRec = λ f. option_map (copied_face rv re) (at c.faces f.0) in
    length-append c.faces (map g fs) ∙ ap (λ (k : ℕ). length c.faces + k) (length-map fs g)

face_linked : (rv : VertName → VertName) (re : EdgeName → EdgeName) (c : Complex) (fs : List FaceName) (r : FaceRec)
    → IsFaceLinked c r → IsFaceLinked (with_face_copies rv re c fs) r
unfolding with_face_copies
face_linked rv re c fs r l = record {
  some = l.some;
  corners = λ k d less. let x = l.corners k d less in record { vert = x.vert; edge = x.edge; vals = x.vals };
  vals = l.vals;
}

pub faces_linked : (rv : VertName → VertName) (re : EdgeName → EdgeName) (c : Complex) (fs : List FaceName) (f : FaceName)
    → IsThere c.faces f.0 → IsFaceCopyLinked rv re c f → IsFaceCopyLinked rv re (with_face_copies rv re c fs) f
faces_linked rv re c fs f there linked r is =
    face_linked rv re c fs (copied_face rv re r) (linked r (sym (faces_at rv re c fs f there) ∙ is))

-- ---- CORNERS

pub corners-copied : (rv : VertName → VertName) (re : EdgeName → EdgeName) (o : Option FaceRec)
    → corners_of (option_map (copied_face rv re) o) ≡ map (copied_corner rv re) (corners_of o)
corners-copied rv re None = refl
corners-copied rv re (Some r) = refl

long-copied : (rv : VertName → VertName) (re : EdgeName → EdgeName) (o : Option FaceRec)
    → length (corners_of (option_map (copied_face rv re) o)) ≡ length (corners_of o)
long-copied rv re o = ap length (corners-copied rv re o) ∙ length-map (corners_of o) (copied_corner rv re)

corner_sum-cons : (o : Option FaceRec) (t : List (Option FaceRec))
    → corner_sum (o ∷ t) ≡ length (corners_of o) + corner_sum t
corner_sum-cons o t = sum_by-cons (λ (x : Option FaceRec). length (corners_of x)) o t

-- the corners of the copies are as many as those of the faces
pub sum-copied : (rv : VertName → VertName) (re : EdgeName → EdgeName) (c : Complex) (fs : List FaceName)
    → corner_sum (with_face_copies rv re c fs).faces ≡ corner_sum c.faces + corners_in c fs
unfolding with_face_copies
sum-copied rv re c fs =
    corner_sum-append c.faces (map (λ (f : FaceName). option_map (copied_face rv re) (at c.faces f.0)) fs)
    ∙ ap (λ (k : ℕ). corner_sum c.faces + k) (each fs)
  where
    each : (gs : List FaceName)
        → corner_sum (map (λ (f : FaceName). option_map (copied_face rv re) (at c.faces f.0)) gs) ≡ corners_in c gs
    each [] = refl
    each (f ∷ gs) =
        let copy : FaceName → Option FaceRec = λ x. option_map (copied_face rv re) (at c.faces x.0) in
        corner_sum-cons (copy f) (map copy gs) ∙ rw (long-copied rv re (at c.faces f.0), each gs) refl
        ∙ sym (corner_sum-cons (at c.faces f.0) (map (λ (x : FaceName). at c.faces x.0) gs))

-- the corners of the first faces and of the next one are within those of all
pub sum-next : (c : Complex) (fs : List FaceName) (i : ℕ) (d : FaceName) → i < length fs
    → corners_in c (take i fs) + length (corners_of (at c.faces (get_or fs i d).0)) ≤ corners_in c fs
sum-next c [] i d less = absurd (omega arith)
sum-next c (f ∷ fs) zero d less =
    let whole = corner_sum-cons (at c.faces f.0) (map (λ (x : FaceName). at c.faces x.0) fs) in omega arith
sum-next c (f ∷ fs) (suc i) d less =
    let rest = sum-next c fs i d (omega arith) in
    let whole = corner_sum-cons (at c.faces f.0) (map (λ (x : FaceName). at c.faces x.0) fs) in
    let part = corner_sum-cons (at c.faces f.0) (map (λ (x : FaceName). at c.faces x.0) (take i fs)) in
    omega arith

-- ---- A FACE MADE WITH ONE CORNER AND GIVEN ALL

update-last : {X : Type 0} (t : List (Option X)) (r : X) (change : X → X)
    → update (t ++ Some r ∷ []) (length t) change ≡ t ++ Some (change r) ∷ []
update-last [] r change = refl
update-last {X = X} (o ∷ t) r change = ap (λ (s : List (Option X)). o ∷ s) (update-last t r change)

-- a face with an example's values that gets the copies of the example's corners is its copy
pub face_made : (rv : VertName → VertName) (re : EdgeName → EdgeName) (c : Complex) (f n : FaceName) (r : FaceRec)
    (first : List (VertName × EdgeName)) → at c.faces f.0 ≡ Some r → n.0 ≡ length c.faces
    → with_corners (with_face_like c first (Some f)) n (map (copied_corner rv re) r.corners)
    ≡ with_face_copies rv re c (f ∷ [])
unfolding with_face_copies
face_made rv re c f n r first is name =
    let made : FaceRec = record { corners = map (corner_from c) first; vals = face_vals_like c (Some f) } in
    let all : FaceRec → FaceRec = λ x. record x { corners = map (copied_corner rv re) r.corners } in
    let vals : face_vals_like c (Some f) ≡ r.vals = rw is refl in
    ap (λ (t : List (Option FaceRec)). record c { faces = t })
    (ap (λ (k : ℕ). update (c.faces ++ Some made ∷ []) k all) name ∙ update-last c.faces made all
    ∙ ap (λ (vs : List ℤ). let x : FaceRec = record { corners = map (copied_corner rv re) r.corners; vals = vs } in
    c.faces ++ Some x ∷ []) vals
    ∙ ap (λ (o : Option FaceRec). c.faces ++ option_map (copied_face rv re) o ∷ []) (sym is))

-- the face with its first corner stands
pub first_there : (c : Complex) (f n : FaceName) (first : List (VertName × EdgeName)) → n.0 ≡ length c.faces
    → at (with_face_like c first (Some f)).faces n.0
    ≡ Some (record { corners = map (corner_from c) first; vals = face_vals_like c (Some f) })
first_there c f n first name =
    let made : FaceRec = record { corners = map (corner_from c) first; vals = face_vals_like c (Some f) } in
    ap (λ (k : ℕ). at (c.faces ++ Some made ∷ []) k) name ∙ at-append_new c.faces made

-- corners stay linked there
pub corners_linked : (c : Complex) (f : FaceName) (first : List (VertName × EdgeName)) (ks : List CornerRec)
    → All (IsCornerLinked c) ks → All (IsCornerLinked (with_face_like c first (Some f))) ks
corners_linked c f first ks all k d less =
    let x = all k d less in record { vert = x.vert; edge = x.edge; vals = x.vals }

-- ---- ROWS OF VALUES

-- the row of a corner among all rows
pub row_at : (ks : List CornerRec) (w i : ℕ) (d : CornerRec) → AreWide w ks → i < length ks
    → take w (drop (i * w) (flat_map (λ (k : CornerRec). k.vals) ks)) ≡ (get_or ks i d).vals
row_at [] w i d wide less = absurd (omega arith)
row_at (k ∷ ks) w zero d wide less =
    let here = All-head (λ (x : CornerRec). length x.vals ≡ w) k ks wide in
    ap (λ (n : ℕ). take w (drop n (flat_map (λ (x : CornerRec). x.vals) (k ∷ ks)))) (zero-mul w)
    ∙ take_at k.vals (flat_map (λ (x : CornerRec). x.vals) ks) w here
row_at (k ∷ ks) w (suc i) d wide less =
    let here = All-head (λ (x : CornerRec). length x.vals ≡ w) k ks wide in
    let rows = flat_map (λ (x : CornerRec). x.vals) ks in
    let far : suc i * w ≡ w + i * w = omega (arith, suc-mul i w) in
    ap (λ (n : ℕ). take w (drop n (k.vals ++ rows))) far
    ∙ ap (take w) (sym (drop-drop (i * w) w (k.vals ++ rows)) ∙ ap (drop (i * w)) (drop_at k.vals rows w here))
    ∙ row_at ks w i d (All-tail (λ (x : CornerRec). length x.vals ≡ w) k ks wide) (omega arith)

-- one corner more
pub corners_more : (rv : VertName → VertName) (re : EdgeName → EdgeName) (ks : List CornerRec) (i : ℕ) (d : CornerRec)
    (k : CornerRec) → i < length ks
    → k ≡ record {
      vert = rv (get_or ks i d).vert;
      edge = re (get_or ks i d).edge;
      vals = (get_or ks i d).vals;
    } → map (copied_corner rv re) (take i ks) ++ k ∷ [] ≡ map (copied_corner rv re) (take (i + 1) ks)
corners_more rv re ks i d k less is =
    ap (λ (x : CornerRec). map (copied_corner rv re) (take i ks) ++ x ∷ []) is
    ∙ sym (map-append (copied_corner rv re) (take i ks) (get_or ks i d ∷ []))
    ∙ ap (map (copied_corner rv re)) (sym (take_more ks i d less))

-- an edge as its ends tell
pub edge_told : (o : Option EdgeRec) (ends : List VertName)
    → option_map (λ (r : EdgeRec). r.a ∷ r.b ∷ []) o ≡ Some ends
    → (r : EdgeRec) × (o ≡ Some r) × (ends ≡ r.a ∷ r.b ∷ [])
edge_told None ends told = absurd (cc)
edge_told (Some r) ends told = (r, refl, cc)

-- the sources of pairs are those that were copied
pub sources-paired : (copy : VertName → VertName) (vs : List VertName)
    → sources (map (λ (v : VertName). let p : Pair = record { source = v; target = copy v } in p) vs) ≡ vs
sources-paired copy [] = refl
sources-paired copy (v ∷ vs) = ap (λ (ws : List VertName). v ∷ ws) (sources-paired copy vs)

row-within : (i n w : ℕ) → i < n → i * w + w ≤ n * w
row-within i zero w less = absurd (omega arith)
row-within zero (suc n) w less = omega (arith, suc-mul n w, zero-mul w)
row-within (suc i) (suc n) w less =
    let rest = row-within i n w (omega arith) in omega (arith, suc-mul n w, suc-mul i w)

-- the row of each corner is within all rows
pub row_fits : (ks : List CornerRec) (w i : ℕ) (rows : List ℤ) → AreWide w ks
    → rows ≡ flat_map (λ (k : CornerRec). k.vals) ks → i < length ks → i * w + w ≤ length rows
row_fits ks w i rows wide is less =
    let long : length rows ≡ length ks * w = ap length is ∙ length-rows ks w wide in
    omega (arith, long, row-within i (length ks) w less)

-- a corner's copy, by its vertex and edge and by its row
pub corner_told : (rv : VertName → VertName) (re : EdgeName → EdgeName) (ks : List CornerRec)
    (sides : List (VertName × EdgeName)) (rows : List ℤ) (w i : ℕ) (d : CornerRec) (e : VertName × EdgeName)
    → sides ≡ map (λ (k : CornerRec). (k.vert, k.edge)) ks → rows ≡ flat_map (λ (k : CornerRec). k.vals) ks → AreWide w ks
    → i < length ks
    → copied_corner rv re (record {
      vert = (get_or sides i e).0;
      edge = (get_or sides i e).1;
      vals = take w (drop (i * w) rows);
    }) ≡ copied_corner rv re (get_or ks i d)
corner_told rv re ks sides rows w i d e sides_are rows_are wide less =
    let pair : CornerRec → VertName × EdgeName = λ k. (k.vert, k.edge) in
    let side : get_or sides i e ≡ pair (get_or ks i d) =
    ap (λ (xs : List (VertName × EdgeName)). get_or xs i e) sides_are ∙ get_or-map pair ks i d e less in
    let row : take w (drop (i * w) rows) ≡ (get_or ks i d).vals =
    ap (λ (xs : List ℤ). take w (drop (i * w) xs)) rows_are ∙ row_at ks w i d wide less in
    ap (λ (x : VertName × EdgeName). let k : CornerRec = record {
      vert = rv x.0;
      edge = re x.1;
      vals = take w (drop (i * w) rows);
    } in k) side
    ∙ ap (λ (vs : List ℤ). let k : CornerRec = record {
      vert = rv (get_or ks i d).vert;
      edge = re (get_or ks i d).edge;
      vals = vs;
    } in k) row

-- Ends, corners, points and values replaced: when the complex stays linked, valid and simple.
use Rattle.std.proofs.Common.{◌≡◌, ◌≢◌, ℕ, zero, suc, ◌+◌, ◌<◌, ◌≤◌, true, false, ℤ, IsTrue, List, ◌∷◌, length, get_or}
use Rattle.std.proofs.Common.{take, drop, refl, sym, ap, ◌∙◌, inl, inr, arith, Option, Some, None, All, insert, remove}
use Rattle.std.proofs.Common.{Bool, cond, eqb, option_map}
use Rattle.std.specs.List.{list_all}
use Rattle.std.proofs.lemmas.Bool.{cases_eq, cases_Bool, eq-eqb, both_ways}
use Rattle.std.proofs.lemmas.List.{length-append, length-take, length-drop}
use Rattle.std.proofs.lemmas.List.Elements.{All-cons, All-append, All-take, All-drop}
use Rattle.mesh_model.specs.Table.{at, passes, IsThere, allows}
use Rattle.mesh_model.specs.Complex.{Complex, width, corner_sum, material_layer, smooth_layer}
use Rattle.mesh_model.specs.Incidence.{joins, uses_edge, is_along}
use Rattle.mesh_model.specs.Values.{number_in}
use Rattle.mesh_model.specs.Kernel.{with_side, with_end, with_corners_by, with_corners, with_corner, without_corner}
use Rattle.mesh_model.specs.Kernel.{reversed, reversed_face, with_point, with_vert_vals, with_edge_vals, with_face_vals}
use Rattle.mesh_model.specs.Kernel.{changed_at, with_corner_vals}
use Rattle.mesh_model.specs.Valid.{is_on_grid, is_in_range, is_material, is_smooth, IsEdgeLinked, IsCornerLinked}
use Rattle.mesh_model.specs.Valid.{IsCornerValid, IsPolygon, IsLinked, IsValid, IsSimple}
use Rattle.mesh_model.specs.declared.limits.TheConstants.{MAX_CORNERS}
use Rattle.mesh_model.specs.declared.names.Kind.TheVariants.{Verts, Edges, Corners, Faces}
use Rattle.mesh_model.specs.declared.names.VertName.{VertName}
use Rattle.mesh_model.specs.declared.names.EdgeName.{EdgeName}
use Rattle.mesh_model.specs.declared.names.FaceName.{FaceName}
use Rattle.mesh_model.specs.declared.records.Point.{Point}
use Rattle.mesh_model.specs.declared.records.EdgeRec.{EdgeRec}
use Rattle.mesh_model.specs.declared.records.CornerRec.{CornerRec}
use Rattle.mesh_model.specs.declared.records.FaceRec.{FaceRec}
use Rattle.mesh_model.proofs.Tables.{at-update, at-update_other, update-same, update-update}
use Rattle.mesh_model.proofs.Lists.{list_any-none, length-changed_at, get_or-changed_at, get_or-changed_other}
use Rattle.mesh_model.proofs.Lists.{All-changed_at}
use Rattle.mesh_model.proofs.Polygons.{after, closed-at, closed-from, IsPolygon-alike, IsPolygon-where}
use Rattle.mesh_model.proofs.Reversed.{length-reversed, reversed-reversed, IsPolygon-reversed, All-reversed}
use Rattle.mesh_model.proofs.Updates.{IsLinked-update_vert, IsValid-update_vert, IsLinked-update_edge}
use Rattle.mesh_model.proofs.Updates.{IsValid-update_edge, IsSimple-update_edge, IsLinked-update_face}
use Rattle.mesh_model.proofs.Updates.{IsValid-update_face}

-- ---- THE END OF AN EDGE

-- the end at the other side
abbrev pub far_end : ℕ → EdgeRec → VertName
far_end zero e = e.b
far_end (suc side) e = e.a

side_linked : (c : Complex) (side : ℕ) (v : VertName) (r : EdgeRec) → IsThere c.verts v.0 → v.0 ≢ (far_end side r).0
    → IsEdgeLinked c r → IsEdgeLinked c (with_side side v r)
side_linked c zero v r there differ l = record { a = there; b = l.b; differ = differ; vals = l.vals }
side_linked c (suc side) v r there differ l =
    record { a = l.a; b = there; differ = λ same. differ (sym same); vals = l.vals }

side_vals : (side : ℕ) (v : VertName) (r : EdgeRec) → (with_side side v r).vals ≡ r.vals
side_vals zero v r = refl
side_vals (suc side) v r = refl

pub IsLinked-with_end : (c : Complex) (e : EdgeName) (side : ℕ) (v : VertName) → IsThere c.verts v.0
    → ((r : EdgeRec) → at c.edges e.0 ≡ Some r → v.0 ≢ (far_end side r).0) → IsLinked c → IsLinked (with_end c e side v)
IsLinked-with_end c e side v there differ h =
    IsLinked-update_edge c e (with_side side v) (λ r is. side_linked c side v r there (differ r is) (h.edges e.0 r is))
    h

-- besides, the faces along the edge are polygons of the changed edges
pub IsValid-with_end : (c : Complex) (e : EdgeName) (side : ℕ) (v : VertName) → IsThere c.verts v.0
    → ((r : EdgeRec) → at c.edges e.0 ≡ Some r → v.0 ≢ (far_end side r).0)
    → ((n : ℕ) (f : FaceRec) → at c.faces n ≡ Some f → uses_edge e f ≡ true
    → IsPolygon (with_end c e side v).edges f.corners) → IsValid c → IsValid (with_end c e side v)
IsValid-with_end c e side v there differ polygons h = IsValid-update_edge c e (with_side side v)
    (λ r is. (
      side_linked c side v r there (differ r is) (h.linked.edges e.0 r is),
      record { vals = rw (side_vals side v r) (h.edges e.0 r is).vals },
    ))
    (λ n f is. elim (cases_Bool (uses_edge e f)) [
      | inl uses ↦ polygons n f is uses
      | inr off ↦ IsPolygon-where (with_end c e side v) c f.corners
          (λ i d less. at-update_other c.edges e.0 (get_or f.corners i d).edge.0 (with_side side v)
          (λ same. both_ways (is_along e (get_or f.corners i d)) (list_any-none (is_along e) f.corners off i d less)
          (eq-eqb (get_or f.corners i d).edge.0 e.0 (sym same))))
          (h.faces n f is).polygon
    ]) h

-- no other edge joins the two ends that it then has
pub IsSimple-with_end : (c : Complex) (e : EdgeName) (side : ℕ) (v : VertName)
    → ((r : EdgeRec) → at c.edges e.0 ≡ Some r → (n : ℕ) (f : EdgeRec) → at c.edges n ≡ Some f
    → joins (with_side side v r).a (with_side side v r).b f ≡ true → n ≡ e.0)
    → IsSimple c → IsSimple (with_end c e side v)
IsSimple-with_end c e side v alone h = IsSimple-update_edge c e (with_side side v) alone h

-- ---- CORNERS

pub IsLinked-with_corners_by : (c : Complex) (f : FaceName) (change : List CornerRec → List CornerRec)
    → ((r : FaceRec) → at c.faces f.0 ≡ Some r
    → (0 < length (change r.corners)) × All (IsCornerLinked c) (change r.corners))
    → IsLinked c → IsLinked (with_corners_by c f change)
IsLinked-with_corners_by c f change right h =
    IsLinked-update_face c f (λ r. record r { corners = change r.corners }) (λ r is. let all = right r is in
    record { some = all.0; corners = all.1; vals = (h.faces f.0 r is).vals }) h

pub IsValid-with_corners_by : (c : Complex) (f : FaceName) (change : List CornerRec → List CornerRec) (r : FaceRec)
    → at c.faces f.0 ≡ Some r → All (IsCornerLinked c) (change r.corners) → All IsCornerValid (change r.corners)
    → IsPolygon c.edges (change r.corners)
    → corner_sum c.faces + length (change r.corners) ≤ MAX_CORNERS + length r.corners → IsValid c
    → IsValid (with_corners_by c f change)
IsValid-with_corners_by c f change r is links valid polygon few h =
    let was = h.faces f.0 r is in
    IsValid-update_face c f (λ r. record r { corners = change r.corners }) r is
    (record { some = let least = polygon.least in omega arith; corners = links; vals = (h.linked.faces f.0 r is).vals })
    (record { polygon = polygon; corners = valid; vals = was.vals; material = was.material; smooth = was.smooth }) few h

pub IsSimple-with_corners_by : (c : Complex) (f : FaceName) (change : List CornerRec → List CornerRec) → IsSimple c
    → IsSimple (with_corners_by c f change)
IsSimple-with_corners_by c f change h = h

pub IsLinked-with_corners : (c : Complex) (f : FaceName) (corners : List CornerRec) → 0 < length corners
    → All (IsCornerLinked c) corners → IsLinked c → IsLinked (with_corners c f corners)
IsLinked-with_corners c f corners some links h = IsLinked-with_corners_by c f (λ _. corners) (λ r is. (some, links)) h

pub IsValid-with_corners : (c : Complex) (f : FaceName) (corners : List CornerRec) (r : FaceRec)
    → at c.faces f.0 ≡ Some r → All (IsCornerLinked c) corners → All IsCornerValid corners → IsPolygon c.edges corners
    → corner_sum c.faces + length corners ≤ MAX_CORNERS + length r.corners → IsValid c
    → IsValid (with_corners c f corners)
IsValid-with_corners c f corners r is links valid polygon few h =
    IsValid-with_corners_by c f (λ _. corners) r is links valid polygon few h

-- a corner more
pub IsLinked-with_corner : (c : Complex) (f : FaceName) (i : ℕ) (k : CornerRec) → IsCornerLinked c k → IsLinked c
    → IsLinked (with_corner c f i k)
IsLinked-with_corner c f i k l h = IsLinked-with_corners_by c f (λ corners. insert corners i k) (λ r is. (
  omega (arith, length-append (take i r.corners) (k ∷ drop i r.corners)),
  All-append (IsCornerLinked c) (take i r.corners) (k ∷ drop i r.corners)
      (All-take (IsCornerLinked c) i r.corners (h.faces f.0 r is).corners)
      (All-cons (IsCornerLinked c) k (drop i r.corners) l
      (All-drop (IsCornerLinked c) i r.corners (h.faces f.0 r is).corners)),
)) h

-- a corner less, where another is left
pub IsLinked-without_corner : (c : Complex) (f : FaceName) (i : ℕ)
    → ((r : FaceRec) → at c.faces f.0 ≡ Some r → 1 < length r.corners) → IsLinked c → IsLinked (without_corner c f i)
IsLinked-without_corner c f i more h = IsLinked-with_corners_by c f (λ corners. remove corners i) (λ r is. (
  let many = more r is in
      omega (
        arith,
        length-append (take i r.corners) (drop (suc i) r.corners),
        length-take i r.corners,
        length-drop (suc i) r.corners,
      ),
  All-append (IsCornerLinked c) (take i r.corners) (drop (suc i) r.corners)
      (All-take (IsCornerLinked c) i r.corners (h.faces f.0 r is).corners)
      (All-drop (IsCornerLinked c) (suc i) r.corners (h.faces f.0 r is).corners),
)) h

-- ---- A FACE TURNED OVER

pub IsLinked-reversed_face : (c : Complex) (f : FaceName) → IsLinked c → IsLinked (reversed_face c f)
IsLinked-reversed_face c f h = IsLinked-with_corners_by c f reversed (λ r is.
    let l = h.faces f.0 r is in (
      let some = l.some in omega (arith, length-reversed r.corners),
      All-reversed (IsCornerLinked c) r.corners (λ i j d i_in j_in. record {
        vert = (l.corners i d i_in).vert;
        edge =
            (l.corners j d j_in).edge;
        vals = (l.corners i d i_in).vals;
      }),
    )) h

pub IsValid-reversed_face : (c : Complex) (f : FaceName) (r : FaceRec) → at c.faces f.0 ≡ Some r → IsValid c
    → IsValid (reversed_face c f)
IsValid-reversed_face c f r is h =
    let l = h.linked.faces f.0 r is in
    let v = h.faces f.0 r is in
    IsValid-with_corners_by c f reversed r is
    (All-reversed (IsCornerLinked c) r.corners (λ i j d i_in j_in. record {
      vert = (l.corners i d i_in).vert;
      edge =
          (l.corners j d j_in).edge;
      vals = (l.corners i d i_in).vals;
    }))
    (All-reversed IsCornerValid r.corners (λ i j d i_in j_in. record { vals = (v.corners i d i_in).vals }))
    (IsPolygon-reversed c r.corners v.polygon)
    (let few = h.limits.corners in omega (arith, length-reversed r.corners)) h

pub IsSimple-reversed_face : (c : Complex) (f : FaceName) → IsSimple c → IsSimple (reversed_face c f)
IsSimple-reversed_face c f h = h

-- turned over twice
pub reversed_face-reversed_face : (c : Complex) (f : FaceName) → reversed_face (reversed_face c f) f ≡ c
reversed_face-reversed_face c f = ap (λ (faces : List (Option FaceRec)). let d : Complex = record c { faces = faces } in
    d)
    (update-update c.faces f.0 (λ (r : FaceRec). record r { corners = reversed r.corners })
    (λ (r : FaceRec). record r { corners = reversed r.corners })
    ∙ update-same c.faces f.0 (λ (r : FaceRec). record r { corners = reversed (reversed r.corners) })
    (λ r is. ap (λ (ks : List CornerRec). let g : FaceRec = record r { corners = ks } in
    g) (reversed-reversed r.corners)))

-- ---- POINTS AND VALUES

pub IsLinked-with_point : (c : Complex) (v : VertName) (p : Point) → IsLinked c → IsLinked (with_point c v p)
IsLinked-with_point c v p h =
    IsLinked-update_vert c v (λ r. record r { point = p }) (λ r is. record { vals = (h.verts v.0 r is).vals }) h

pub IsValid-with_point : (c : Complex) (v : VertName) (p : Point) → IsTrue (is_on_grid p) → IsValid c
    → IsValid (with_point c v p)
IsValid-with_point c v p grid h =
    IsValid-update_vert c v (λ r. record r { point = p }) (λ r is. (
      record { vals = (h.linked.verts v.0 r is).vals },
      record { point = grid; vals = (h.verts v.0 r is).vals },
    )) h

pub IsSimple-with_point : (c : Complex) (v : VertName) (p : Point) → IsSimple c → IsSimple (with_point c v p)
IsSimple-with_point c v p h = h

pub IsLinked-with_vert_vals : (c : Complex) (v : VertName) (vals : List ℤ) → length vals ≡ width c Verts → IsLinked c
    → IsLinked (with_vert_vals c v vals)
IsLinked-with_vert_vals c v vals fit h =
    IsLinked-update_vert c v (λ r. record r { vals = vals }) (λ r is. record { vals = fit }) h

pub IsValid-with_vert_vals : (c : Complex) (v : VertName) (vals : List ℤ) → length vals ≡ width c Verts
    → IsTrue (list_all is_in_range vals) → IsValid c → IsValid (with_vert_vals c v vals)
IsValid-with_vert_vals c v vals fit range h =
    IsValid-update_vert c v (λ r. record r { vals = vals })
    (λ r is. (record { vals = fit }, record { point = (h.verts v.0 r is).point; vals = range })) h

pub IsSimple-with_vert_vals : (c : Complex) (v : VertName) (vals : List ℤ) → IsSimple c
    → IsSimple (with_vert_vals c v vals)
IsSimple-with_vert_vals c v vals h = h

pub IsLinked-with_edge_vals : (c : Complex) (e : EdgeName) (vals : List ℤ) → length vals ≡ width c Edges → IsLinked c
    → IsLinked (with_edge_vals c e vals)
IsLinked-with_edge_vals c e vals fit h =
    IsLinked-update_edge c e (λ r. record r { vals = vals }) (λ r is. let l = h.edges e.0 r is in
    record { a = l.a; b = l.b; differ = l.differ; vals = fit }) h

-- new values of an edge leave its ends
same_joins : (c : Complex) (e : EdgeName) (vals : List ℤ) (v w : VertName) (n : ℕ)
    → passes (joins v w) (at (with_edge_vals c e vals).edges n) ≡ passes (joins v w) (at c.edges n)
same_joins c e vals v w n =
    ap (passes (joins v w)) (at-update c.edges e.0 n (λ (r : EdgeRec). record r { vals = vals }))
    ∙ either (eqb e.0 n) (at c.edges n)
  where
    either : (b : Bool) (o : Option EdgeRec)
        → passes (joins v w) (cond b (option_map (λ (r : EdgeRec). let x : EdgeRec = record r { vals = vals } in x) o)
        o) ≡ passes (joins v w) o
    either true None = refl
    either true (Some r) = refl
    either false o = refl

pub IsValid-with_edge_vals : (c : Complex) (e : EdgeName) (vals : List ℤ) → length vals ≡ width c Edges
    → IsTrue (list_all is_in_range vals) → IsValid c → IsValid (with_edge_vals c e vals)
IsValid-with_edge_vals c e vals fit range h = IsValid-update_edge c e (λ r. record r { vals = vals })
    (λ r is. let l = h.linked.edges e.0 r is in
    (record { a = l.a; b = l.b; differ = l.differ; vals = fit }, record { vals = range }))
    (λ n f is. let polygon = (h.faces n f is).polygon in record {
      least = polygon.least;
      most = polygon.most;
      distinct = polygon.distinct;
      closed = closed-from (with_edge_vals c e vals) f.corners (λ i d less.
          same_joins c e vals (get_or f.corners i d).vert (get_or f.corners (after (length f.corners) i) d).vert
          (get_or f.corners i d).edge.0 ∙ closed-at c f.corners polygon.closed i d less);
    }) h

pub IsSimple-with_edge_vals : (c : Complex) (e : EdgeName) (vals : List ℤ) → IsSimple c
    → IsSimple (with_edge_vals c e vals)
IsSimple-with_edge_vals c e vals h =
    IsSimple-update_edge c e (λ r. record r { vals = vals }) (λ r is n f at_n same. sym (h e.0 n r f is at_n same)) h

pub IsLinked-with_face_vals : (c : Complex) (f : FaceName) (vals : List ℤ) → length vals ≡ width c Faces → IsLinked c
    → IsLinked (with_face_vals c f vals)
IsLinked-with_face_vals c f vals fit h =
    IsLinked-update_face c f (λ r. record r { vals = vals }) (λ r is. let l = h.faces f.0 r is in
    record { some = l.some; corners = l.corners; vals = fit }) h

-- besides, the material is there and the smoothing group isn't negative
pub IsValid-with_face_vals : (c : Complex) (f : FaceName) (vals : List ℤ) (r : FaceRec) → at c.faces f.0 ≡ Some r
    → length vals ≡ width c Faces → IsTrue (list_all is_in_range vals)
    → IsTrue (allows (is_material c) (number_in c.layers.faces material_layer vals))
    → IsTrue (allows is_smooth (number_in c.layers.faces smooth_layer vals)) → IsValid c
    → IsValid (with_face_vals c f vals)
IsValid-with_face_vals c f vals r is fit range material smooth h =
    let l = h.linked.faces f.0 r is in
    let v = h.faces f.0 r is in
    IsValid-update_face c f (λ r. record r { vals = vals }) r is (record {
      some = l.some;
      corners = l.corners;
      vals =
          fit;
    })
    (record { polygon = v.polygon; corners = v.corners; vals = range; material = material; smooth = smooth }) (let few =
    h.limits.corners in omega arith) h

pub IsSimple-with_face_vals : (c : Complex) (f : FaceName) (vals : List ℤ) → IsSimple c
    → IsSimple (with_face_vals c f vals)
IsSimple-with_face_vals c f vals h = h

vals_linked : (c : Complex) (vals : List ℤ) → length vals ≡ width c Corners → (k : CornerRec) → IsCornerLinked c k
    → IsCornerLinked c (record k { vals = vals })
vals_linked c vals fit k l = record { vert = l.vert; edge = l.edge; vals = fit }

pub IsLinked-with_corner_vals : (c : Complex) (f : FaceName) (i : ℕ) (vals : List ℤ) → length vals ≡ width c Corners
    → IsLinked c → IsLinked (with_corner_vals c f i vals)
IsLinked-with_corner_vals c f i vals fit h =
    IsLinked-with_corners_by c f (λ corners. changed_at corners i (λ (k : CornerRec). record k { vals = vals }))
    (λ r is.
    let l = h.faces f.0 r is in (
      let some = l.some in omega (arith, length-changed_at r.corners i (λ (k : CornerRec). record k { vals = vals })),
      All-changed_at (IsCornerLinked c) r.corners i (λ (k : CornerRec). record k { vals = vals })
          (vals_linked c vals fit) l.corners,
    )) h

-- new values of a corner leave the polygon
polygon_with_vals : (c : Complex) (ks : List CornerRec) (i : ℕ) (vals : List ℤ) → IsPolygon c.edges ks
    → IsPolygon c.edges (changed_at ks i (λ (k : CornerRec). record k { vals = vals }))
polygon_with_vals c ks i vals polygon =
    let change : CornerRec → CornerRec = λ k. record k { vals = vals } in
    IsPolygon-alike c ks (changed_at ks i change) (length-changed_at ks i change) (λ k d less. elim (cases_eq i k) [
      | inl same ↦ rw (← same) (let e = get_or-changed_at ks i change d (omega arith) in
          (ap (λ (x : CornerRec). x.vert) e, ap (λ (x : CornerRec). x.edge) e))
      | inr off ↦ let e = get_or-changed_other ks i change k d off in
          (ap (λ (x : CornerRec). x.vert) e, ap (λ (x : CornerRec). x.edge) e)
    ]) polygon

pub IsValid-with_corner_vals : (c : Complex) (f : FaceName) (i : ℕ) (vals : List ℤ) (r : FaceRec)
    → at c.faces f.0 ≡ Some r → length vals ≡ width c Corners → IsTrue (list_all is_in_range vals) → IsValid c
    → IsValid (with_corner_vals c f i vals)
IsValid-with_corner_vals c f i vals r is fit range h =
    let change : CornerRec → CornerRec = λ k. record k { vals = vals } in
    IsValid-with_corners_by c f (λ corners. changed_at corners i (λ (k : CornerRec). record k { vals = vals })) r is
    (All-changed_at (IsCornerLinked c) r.corners i change (vals_linked c vals fit) (h.linked.faces f.0 r is).corners)
    (All-changed_at IsCornerValid r.corners i change (λ k v. record { vals = range }) (h.faces f.0 r is).corners)
    (polygon_with_vals c r.corners i vals (h.faces f.0 r is).polygon)
    (let few = h.limits.corners in omega (arith, length-changed_at r.corners i change)) h

pub IsSimple-with_corner_vals : (c : Complex) (f : FaceName) (i : ℕ) (vals : List ℤ) → IsSimple c
    → IsSimple (with_corner_vals c f i vals)
IsSimple-with_corner_vals c f i vals h = h

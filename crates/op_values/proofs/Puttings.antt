-- Rows of elements changed, one element after another, as one change.
use Rattle.std.proofs.Common.{◌≡◌, ℕ, ◌+◌, ◌<◌, ◌≤◌, ℤ, true, false, eqb, List, [], ◌++◌, length, map, take, drop, get_or, arith}
use Rattle.std.proofs.Common.{refl, sym, ap, ◌∙◌, Option, Some, None, is_some}
use Rattle.std.specs.Prelude.{slice_set}
use Rattle.std.specs.List.{list_any}
use Rattle.std.specs.Option.{option_map}
use Rattle.std.proofs.lemmas.List.Folds.{list_any_more}
use Rattle.std.proofs.lemmas.Bool.{cond-false}
use Rattle.std.proofs.lemmas.List.{length-append, length-take-le, length-drop}
use Rattle.mesh_model.specs.Table.{at, update, changed_names, IsThere}
use Rattle.mesh_model.specs.Complex.{Complex, width}
use Rattle.mesh_model.specs.Kernel.{with_vert_vals, with_edge_vals, with_face_vals}
use Rattle.mesh_model.specs.Naming.{is_rising, vert_numbers, edge_numbers, face_numbers}
use Rattle.mesh_model.specs.declared.names.Kind.TheVariants.{Verts, Edges, Corners, Faces}
use Rattle.mesh_model.specs.declared.names.VertName.{VertName}
use Rattle.mesh_model.specs.declared.names.EdgeName.{EdgeName}
use Rattle.mesh_model.specs.declared.names.FaceName.{FaceName}
use Rattle.mesh_model.specs.declared.records.VertRec.{VertRec}
use Rattle.mesh_model.specs.declared.records.EdgeRec.{EdgeRec}
use Rattle.mesh_model.specs.declared.records.FaceRec.{FaceRec}
use Rattle.mesh_model.proofs.Tables.{at-changed_names, changed_names-none, update-changed_names}
use Rattle.mesh_passes.proofs.Rising.{not_before}
use Rattle.op_values.specs.Putting.{with_vert_row, with_edge_row, with_face_row, with_corner_rows}
use Rattle.op_values.specs.Putting.{vert_put, edge_put, face_put, corners_put, verts_put, edges_put, faces_put}
use Rattle.op_values.specs.Putting.{all_corners_put, put_from}

-- a row is as wide as all are
pub row_wide : {X : Type 0} (row_of : X → List ℤ) (o : Option X) (row : List ℤ) (w : ℕ)
    → ((x : X) → o ≡ Some x → length (row_of x) ≡ w) → option_map row_of o ≡ Some row → length row ≡ w
row_wide row_of None row w all is = absurd (cc)
row_wide row_of (Some x) row w all is = let same : row_of x ≡ row = cc in ap length (sym same) ∙ all x refl

pub put_from-long : (from : ℕ) (numbers row : List ℤ) → from + length numbers ≤ length row
    → length (put_from from numbers row) ≡ length row
put_from-long from numbers row fits = omega (
  arith,
  length-append (take from row) (numbers ++ drop (from + length numbers) row),
  length-append numbers (drop (from + length numbers) row),
  length-take-le from row (omega arith),
  length-drop (from + length numbers) row,
)

-- ---- ONE ELEMENT

-- a row that is replaced by what it is changed to
update_row : {X : Type 0} (row_of : X → List ℤ) (put : List ℤ → X → X) (f : List ℤ → List ℤ) (table : List (Option X))
    (n : ℕ) (row new : List ℤ) → option_map row_of (at table n) ≡ Some row → new ≡ f row
    → update table n (put new) ≡ update table n (λ x. put (f (row_of x)) x)
update_row {X = X} row_of put f table n row new is made = ap (slice_set table n) (of (at table n) is)
  where
    of : (o : Option X) → option_map row_of o ≡ Some row
        → option_map (put new) o ≡ option_map (λ x. put (f (row_of x)) x) o
    of None h = refl
    of (Some x) h = let same : row_of x ≡ row = cc in
        ap (λ (r : List ℤ). let y : Option X = Some (put r x) in y) (made ∙ ap f (sym same))

pub vert_step : (f : List ℤ → List ℤ) (c : Complex) (v : VertName) (row new : List ℤ)
    → option_map (λ (r : VertRec). r.vals) (at c.verts v.0) ≡ Some row → new ≡ f row
    → with_vert_vals c v new ≡ vert_put f c v
unfolding vert_put
vert_step f c v row new is made = ap (λ (t : List (Option VertRec)). record c { verts = t })
    (update_row (λ (r : VertRec). r.vals) (λ vals r. record r { vals = vals }) f c.verts v.0 row new is made)

pub edge_step : (f : List ℤ → List ℤ) (c : Complex) (e : EdgeName) (row new : List ℤ)
    → option_map (λ (r : EdgeRec). r.vals) (at c.edges e.0) ≡ Some row → new ≡ f row
    → with_edge_vals c e new ≡ edge_put f c e
unfolding edge_put
edge_step f c e row new is made = ap (λ (t : List (Option EdgeRec)). record c { edges = t })
    (update_row (λ (r : EdgeRec). r.vals) (λ vals r. record r { vals = vals }) f c.edges e.0 row new is made)

pub face_step : (f : List ℤ → List ℤ) (c : Complex) (x : FaceName) (row new : List ℤ)
    → option_map (λ (r : FaceRec). r.vals) (at c.faces x.0) ≡ Some row → new ≡ f row
    → with_face_vals c x new ≡ face_put f c x
unfolding face_put
face_step f c x row new is made = ap (λ (t : List (Option FaceRec)). record c { faces = t })
    (update_row (λ (r : FaceRec). r.vals) (λ vals r. record r { vals = vals }) f c.faces x.0 row new is made)

-- ---- ONE ELEMENT MORE

more : {N X : Type 0} (num : N → ℕ) (change : X → X) (table : List (Option X)) (xs : List N) (i : ℕ) (d : N)
    → is_rising (map num xs) ≡ true → i < length xs
    → update (changed_names (λ n. list_any (λ x. eqb (num x) n) (take i xs)) change table) (num (get_or xs i d)) change
    ≡ changed_names (λ n. list_any (λ x. eqb (num x) n) (take (i + 1) xs)) change table
more num change table xs i d rising less =
    update-changed_names (λ n. list_any (λ x. eqb (num x) n) (take i xs))
    (λ n. list_any (λ x. eqb (num x) n) (take (i + 1) xs)) (num (get_or xs i d)) change change table
    (λ n. list_any_more (λ x. eqb (num x) n) xs i d less) (not_before num xs i d rising less) refl

-- the next one still stands
still : {N X : Type 0} (num : N → ℕ) (change : X → X) (table : List (Option X)) (xs : List N) (i : ℕ) (d : N)
    → is_rising (map num xs) ≡ true → i < length xs → IsThere table (num (get_or xs i d))
    → IsThere (changed_names (λ n. list_any (λ x. eqb (num x) n) (take i xs)) change table) (num (get_or xs i d))
still num change table xs i d rising less there =
    ap is_some (at-changed_names (λ n. list_any (λ x. eqb (num x) n) (take i xs)) change table (num (get_or xs i d))
    ∙ cond-false (list_any (λ x. eqb (num x) (num (get_or xs i d))) (take i xs)) _ _
    (not_before num xs i d rising less))
    ∙ there

pub verts_put-none : (f : List ℤ → List ℤ) (c : Complex) → verts_put f c [] ≡ c
unfolding verts_put
verts_put-none f c = ap (λ (t : List (Option VertRec)). record c { verts = t })
    (changed_names-none (λ n. false) (with_vert_row f) c.verts (λ n. refl))

pub verts_put-more : (f : List ℤ → List ℤ) (c : Complex) (vs : List VertName) (i : ℕ) (d : VertName)
    → is_rising (vert_numbers vs) ≡ true → i < length vs
    → vert_put f (verts_put f c (take i vs)) (get_or vs i d) ≡ verts_put f c (take (i + 1) vs)
unfolding verts_put vert_put
verts_put-more f c vs i d rising less = ap (λ (t : List (Option VertRec)). record c { verts = t })
    (more (λ (v : VertName). v.0) (with_vert_row f) c.verts vs i d rising less)

pub verts_put-live : (f : List ℤ → List ℤ) (c : Complex) (vs : List VertName) (i : ℕ) (d : VertName)
    → is_rising (vert_numbers vs) ≡ true → i < length vs → IsThere c.verts (get_or vs i d).0
    → IsThere (verts_put f c (take i vs)).verts (get_or vs i d).0
unfolding verts_put
verts_put-live f c vs i d rising less there =
    still (λ (v : VertName). v.0) (with_vert_row f) c.verts vs i d rising less there

pub edges_put-none : (f : List ℤ → List ℤ) (c : Complex) → edges_put f c [] ≡ c
unfolding edges_put
edges_put-none f c = ap (λ (t : List (Option EdgeRec)). record c { edges = t })
    (changed_names-none (λ n. false) (with_edge_row f) c.edges (λ n. refl))

pub edges_put-more : (f : List ℤ → List ℤ) (c : Complex) (es : List EdgeName) (i : ℕ) (d : EdgeName)
    → is_rising (edge_numbers es) ≡ true → i < length es
    → edge_put f (edges_put f c (take i es)) (get_or es i d) ≡ edges_put f c (take (i + 1) es)
unfolding edges_put edge_put
edges_put-more f c es i d rising less = ap (λ (t : List (Option EdgeRec)). record c { edges = t })
    (more (λ (e : EdgeName). e.0) (with_edge_row f) c.edges es i d rising less)

pub edges_put-live : (f : List ℤ → List ℤ) (c : Complex) (es : List EdgeName) (i : ℕ) (d : EdgeName)
    → is_rising (edge_numbers es) ≡ true → i < length es → IsThere c.edges (get_or es i d).0
    → IsThere (edges_put f c (take i es)).edges (get_or es i d).0
unfolding edges_put
edges_put-live f c es i d rising less there =
    still (λ (e : EdgeName). e.0) (with_edge_row f) c.edges es i d rising less there

pub faces_put-none : (f : List ℤ → List ℤ) (c : Complex) → faces_put f c [] ≡ c
unfolding faces_put
faces_put-none f c = ap (λ (t : List (Option FaceRec)). record c { faces = t })
    (changed_names-none (λ n. false) (with_face_row f) c.faces (λ n. refl))

pub faces_put-more : (f : List ℤ → List ℤ) (c : Complex) (xs : List FaceName) (i : ℕ) (d : FaceName)
    → is_rising (face_numbers xs) ≡ true → i < length xs
    → face_put f (faces_put f c (take i xs)) (get_or xs i d) ≡ faces_put f c (take (i + 1) xs)
unfolding faces_put face_put
faces_put-more f c xs i d rising less = ap (λ (t : List (Option FaceRec)). record c { faces = t })
    (more (λ (x : FaceName). x.0) (with_face_row f) c.faces xs i d rising less)

pub faces_put-live : (f : List ℤ → List ℤ) (c : Complex) (xs : List FaceName) (i : ℕ) (d : FaceName)
    → is_rising (face_numbers xs) ≡ true → i < length xs → IsThere c.faces (get_or xs i d).0
    → IsThere (faces_put f c (take i xs)).faces (get_or xs i d).0
unfolding faces_put
faces_put-live f c xs i d rising less there =
    still (λ (x : FaceName). x.0) (with_face_row f) c.faces xs i d rising less there

pub all_corners_put-none : (f : List ℤ → List ℤ) (c : Complex) → all_corners_put f c [] ≡ c
unfolding all_corners_put
all_corners_put-none f c = ap (λ (t : List (Option FaceRec)). record c { faces = t })
    (changed_names-none (λ n. false) (with_corner_rows f) c.faces (λ n. refl))

pub all_corners_put-more : (f : List ℤ → List ℤ) (c : Complex) (xs : List FaceName) (i : ℕ) (d : FaceName)
    → is_rising (face_numbers xs) ≡ true → i < length xs
    → corners_put f (all_corners_put f c (take i xs)) (get_or xs i d) ≡ all_corners_put f c (take (i + 1) xs)
unfolding all_corners_put corners_put
all_corners_put-more f c xs i d rising less = ap (λ (t : List (Option FaceRec)). record c { faces = t })
    (more (λ (x : FaceName). x.0) (with_corner_rows f) c.faces xs i d rising less)

pub all_corners_put-live : (f : List ℤ → List ℤ) (c : Complex) (xs : List FaceName) (i : ℕ) (d : FaceName)
    → is_rising (face_numbers xs) ≡ true → i < length xs → IsThere c.faces (get_or xs i d).0
    → IsThere (all_corners_put f c (take i xs)).faces (get_or xs i d).0
unfolding all_corners_put
all_corners_put-live f c xs i d rising less there =
    still (λ (x : FaceName). x.0) (with_corner_rows f) c.faces xs i d rising less there

pub verts_put-width : (f : List ℤ → List ℤ) (c : Complex) (vs : List VertName)
    → width (verts_put f c vs) Verts ≡ width c Verts
unfolding verts_put
verts_put-width f c vs = refl

pub edges_put-width : (f : List ℤ → List ℤ) (c : Complex) (es : List EdgeName)
    → width (edges_put f c es) Edges ≡ width c Edges
unfolding edges_put
edges_put-width f c es = refl

pub faces_put-width : (f : List ℤ → List ℤ) (c : Complex) (xs : List FaceName)
    → width (faces_put f c xs) Faces ≡ width c Faces
unfolding faces_put
faces_put-width f c xs = refl

pub all_corners_put-width : (f : List ℤ → List ℤ) (c : Complex) (xs : List FaceName)
    → width (all_corners_put f c xs) Corners ≡ width c Corners
unfolding all_corners_put
all_corners_put-width f c xs = refl

-- A sound complex stays sound where rows are changed to rows that can be.
use Rattle.std.proofs.Common.{◌≡◌, ℤ, true, List, map, take, get_or, refl, sym, ap, subst, arith}
use Rattle.std.proofs.Common.{All}
use Rattle.std.specs.Option.{option_map}
use Rattle.std.proofs.lemmas.List.{length-map, get_or-map}
use Rattle.std.proofs.lemmas.List.Elements.{All-map}
use Rattle.mesh_model.specs.Table.{at, IsThere}
use Rattle.mesh_model.specs.Complex.{Complex, width}
use Rattle.mesh_model.specs.Naming.{is_rising, vert_numbers, edge_numbers, face_numbers}
use Rattle.mesh_model.specs.Valid.{IsSound, IsCornerLinked, IsCornerValid}
use Rattle.mesh_model.specs.declared.names.Kind.TheVariants.{Verts, Edges, Corners}
use Rattle.mesh_model.specs.declared.names.VertName.{VertName}
use Rattle.mesh_model.specs.declared.names.EdgeName.{EdgeName}
use Rattle.mesh_model.specs.declared.names.FaceName.{FaceName}
use Rattle.mesh_model.specs.declared.records.VertRec.{VertRec}
use Rattle.mesh_model.specs.declared.records.EdgeRec.{EdgeRec}
use Rattle.mesh_model.specs.declared.records.CornerRec.{CornerRec}
use Rattle.mesh_model.specs.declared.records.FaceRec.{FaceRec}
use Rattle.mesh_model.proofs.Tables.{stands}
use Rattle.mesh_model.proofs.Polygons.{IsPolygon-alike}
use Rattle.mesh_model.proofs.KernelUpdates.{IsValid-with_vert_vals, IsSimple-with_vert_vals, IsValid-with_edge_vals}
use Rattle.mesh_model.proofs.KernelUpdates.{IsSimple-with_edge_vals, IsValid-with_face_vals, IsSimple-with_face_vals}
use Rattle.mesh_model.proofs.KernelUpdates.{IsValid-with_corners_by}
use Rattle.mesh_passes.proofs.ManyParts.{each_step}
use Rattle.op_values.specs.Putting.{KeepRows, KeepFaceRows, with_corner_row}
use Rattle.op_values.specs.Putting.{vert_put, edge_put, face_put, corners_put, verts_put, edges_put, faces_put}
use Rattle.op_values.specs.Putting.{all_corners_put}
use Rattle.op_values.proofs.Puttings.{vert_step, edge_step, face_step}
use Rattle.op_values.proofs.Puttings.{verts_put-none, verts_put-more, verts_put-live, verts_put-width}
use Rattle.op_values.proofs.Puttings.{edges_put-none, edges_put-more, edges_put-live, edges_put-width}
use Rattle.op_values.proofs.Puttings.{faces_put-none, faces_put-more, faces_put-live}
use Rattle.op_values.proofs.Puttings.{all_corners_put-none, all_corners_put-more, all_corners_put-live}
use Rattle.op_values.proofs.Puttings.{all_corners_put-width}

-- ---- ONE ELEMENT

sound_vert : (f : List ℤ → List ℤ) (c : Complex) (v : VertName) → IsThere c.verts v.0 → KeepRows f (width c Verts)
    → IsSound c → IsSound (vert_put f c v)
sound_vert f c v there keep h =
    let it = stands (at c.verts v.0) there in
    let row = (it.0).vals in
    let long = (h.valid.linked.verts v.0 it.0 it.1).vals in
    subst IsSound (vert_step f c v row (f row) (ap (option_map (λ (r : VertRec). r.vals)) it.1) refl) (record {
      valid = IsValid-with_vert_vals c v (f row) (keep.long row long)
          (keep.range row long (h.valid.verts v.0 it.0 it.1).vals) h.valid;
      simple = IsSimple-with_vert_vals c v (f row) h.simple;
    })

sound_edge : (f : List ℤ → List ℤ) (c : Complex) (e : EdgeName) → IsThere c.edges e.0 → KeepRows f (width c Edges)
    → IsSound c → IsSound (edge_put f c e)
sound_edge f c e there keep h =
    let it = stands (at c.edges e.0) there in
    let row = (it.0).vals in
    let long = (h.valid.linked.edges e.0 it.0 it.1).vals in
    subst IsSound (edge_step f c e row (f row) (ap (option_map (λ (r : EdgeRec). r.vals)) it.1) refl) (record {
      valid = IsValid-with_edge_vals c e (f row) (keep.long row long)
          (keep.range row long (h.valid.edges e.0 it.0 it.1).vals) h.valid;
      simple = IsSimple-with_edge_vals c e (f row) h.simple;
    })

sound_face : (f : List ℤ → List ℤ) (c : Complex) (x : FaceName) → IsThere c.faces x.0 → KeepFaceRows f c
    → IsSound c → IsSound (face_put f c x)
sound_face f c x there keep h =
    let it = stands (at c.faces x.0) there in
    let row = (it.0).vals in
    let long = (h.valid.linked.faces x.0 it.0 it.1).vals in
    let was = h.valid.faces x.0 it.0 it.1 in
    subst IsSound (face_step f c x row (f row) (ap (option_map (λ (r : FaceRec). r.vals)) it.1) refl) (record {
      valid = IsValid-with_face_vals c x (f row) it.0 it.1 (keep.rows.long row long) (keep.rows.range row long was.vals)
          (keep.material row long was.material) (keep.smooth row long was.smooth) h.valid;
      simple = IsSimple-with_face_vals c x (f row) h.simple;
    })

sound_corners : (f : List ℤ → List ℤ) (c : Complex) (x : FaceName) → IsThere c.faces x.0
    → KeepRows f (width c Corners) → IsSound c → IsSound (corners_put f c x)
unfolding corners_put
sound_corners f c x there keep h =
    let it = stands (at c.faces x.0) there in
    let ks = (it.0).corners in
    let one = with_corner_row f in
    let linked = (h.valid.linked.faces x.0 it.0 it.1).corners in
    let valid = (h.valid.faces x.0 it.0 it.1).corners in
    record {
      valid = IsValid-with_corners_by c x (map one) it.0 it.1
          (All-map (IsCornerLinked c) one ks (λ i d less. let l = linked i d less in record {
            vert = l.vert;
            edge = l.edge;
            vals = keep.long (get_or ks i d).vals l.vals;
          }))
          (All-map IsCornerValid one ks (λ i d less. record {
            vals = keep.range (get_or ks i d).vals (linked i d less).vals (valid i d less).vals;
          }))
          (IsPolygon-alike c ks (map one ks) (length-map ks one) (λ i d less.
          let e = get_or-map one ks i d d less in
          (ap (λ (k : CornerRec). k.vert) e, ap (λ (k : CornerRec). k.edge) e))
          (h.valid.faces x.0 it.0 it.1).polygon)
          (let few = h.valid.limits.corners in omega (arith, length-map ks one)) h.valid;
      simple = h.simple;
    }

-- ---- SOME ELEMENTS

pub IsSound-verts_put : (f : List ℤ → List ℤ) (c : Complex) (vs : List VertName) → is_rising (vert_numbers vs) ≡ true
    → All (λ (v : VertName). IsThere c.verts v.0) vs → KeepRows f (width c Verts) → IsSound c
    → IsSound (verts_put f c vs)
IsSound-verts_put f c vs rising live keep h =
    let none : VertName = record { 0 = 0 } in
    each_step (λ ws. IsSound (verts_put f c ws)) vs (subst IsSound (sym (verts_put-none f c)) h)
    (λ i less so_far. subst IsSound (verts_put-more f c vs i none rising less)
    (sound_vert f (verts_put f c (take i vs)) (get_or vs i none)
    (verts_put-live f c vs i none rising less (live i none less))
    (subst (KeepRows f) (sym (verts_put-width f c (take i vs))) keep) so_far))

pub IsSound-edges_put : (f : List ℤ → List ℤ) (c : Complex) (es : List EdgeName) → is_rising (edge_numbers es) ≡ true
    → All (λ (e : EdgeName). IsThere c.edges e.0) es → KeepRows f (width c Edges) → IsSound c
    → IsSound (edges_put f c es)
IsSound-edges_put f c es rising live keep h =
    let none : EdgeName = record { 0 = 0 } in
    each_step (λ ws. IsSound (edges_put f c ws)) es (subst IsSound (sym (edges_put-none f c)) h)
    (λ i less so_far. subst IsSound (edges_put-more f c es i none rising less)
    (sound_edge f (edges_put f c (take i es)) (get_or es i none)
    (edges_put-live f c es i none rising less (live i none less))
    (subst (KeepRows f) (sym (edges_put-width f c (take i es))) keep) so_far))

-- the layers and the materials are as before
faces_kept : (f : List ℤ → List ℤ) (c : Complex) (xs : List FaceName) → KeepFaceRows f c
    → KeepFaceRows f (faces_put f c xs)
unfolding faces_put
faces_kept f c xs keep = record { rows = keep.rows; material = keep.material; smooth = keep.smooth }

pub IsSound-faces_put : (f : List ℤ → List ℤ) (c : Complex) (xs : List FaceName) → is_rising (face_numbers xs) ≡ true
    → All (λ (x : FaceName). IsThere c.faces x.0) xs → KeepFaceRows f c → IsSound c → IsSound (faces_put f c xs)
IsSound-faces_put f c xs rising live keep h =
    let none : FaceName = record { 0 = 0 } in
    each_step (λ ws. IsSound (faces_put f c ws)) xs (subst IsSound (sym (faces_put-none f c)) h)
    (λ i less so_far. subst IsSound (faces_put-more f c xs i none rising less)
    (sound_face f (faces_put f c (take i xs)) (get_or xs i none)
    (faces_put-live f c xs i none rising less (live i none less)) (faces_kept f c (take i xs) keep) so_far))

pub IsSound-all_corners_put : (f : List ℤ → List ℤ) (c : Complex) (xs : List FaceName)
    → is_rising (face_numbers xs) ≡ true → All (λ (x : FaceName). IsThere c.faces x.0) xs
    → KeepRows f (width c Corners) → IsSound c → IsSound (all_corners_put f c xs)
IsSound-all_corners_put f c xs rising live keep h =
    let none : FaceName = record { 0 = 0 } in
    each_step (λ ws. IsSound (all_corners_put f c ws)) xs (subst IsSound (sym (all_corners_put-none f c)) h)
    (λ i less so_far. subst IsSound (all_corners_put-more f c xs i none rising less)
    (sound_corners f (all_corners_put f c (take i xs)) (get_or xs i none)
    (all_corners_put-live f c xs i none rising less (live i none less))
    (subst (KeepRows f) (sym (all_corners_put-width f c (take i xs))) keep) so_far))

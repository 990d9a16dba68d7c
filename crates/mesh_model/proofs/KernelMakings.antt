-- Elements made with the values of an example: the complex stays linked, valid and simple.
use Rattle.std.proofs.Common.{◌≡◌, ◌≢◌, ◌+◌, ◌<◌, ◌≤◌, true, IsTrue, List, length, map, refl, arith, Option, All}
use Rattle.std.specs.List.{list_all}
use Rattle.std.proofs.lemmas.List.{length-map}
use Rattle.std.proofs.lemmas.List.Elements.{All-map}
use Rattle.mesh_model.specs.Table.{IsThere, allows}
use Rattle.mesh_model.specs.Complex.{Complex, width, corner_sum, material_layer, smooth_layer}
use Rattle.mesh_model.specs.Values.{number_in}
use Rattle.mesh_model.specs.Kernel.{vert_vals_like, edge_vals_like, face_vals_like, corner_from, with_vert_like}
use Rattle.mesh_model.specs.Kernel.{with_edge_like, with_face_like}
use Rattle.mesh_model.specs.Valid.{is_on_grid, is_in_range, is_material, is_smooth, IsCornerLinked, IsCornerValid}
use Rattle.mesh_model.specs.Valid.{IsLinked, IsPolygon, IsValid, IsSimple}
use Rattle.mesh_model.specs.declared.limits.TheConstants.{MAX_VERTS, MAX_EDGES, MAX_FACES, MAX_CORNERS}
use Rattle.mesh_model.specs.declared.names.Kind.TheVariants.{Verts, Edges, Corners, Faces}
use Rattle.mesh_model.specs.declared.names.VertName.{VertName}
use Rattle.mesh_model.specs.declared.names.EdgeName.{EdgeName}
use Rattle.mesh_model.specs.declared.names.FaceName.{FaceName}
use Rattle.mesh_model.specs.declared.records.Point.{Point}
use Rattle.mesh_model.proofs.Zeros.{length-zeros, in_range-zeros, allows-zeros, material-zero, vert_vals_like-has}
use Rattle.mesh_model.proofs.Zeros.{edge_vals_like-has, face_vals_like-has}
use Rattle.mesh_model.proofs.Makings.{JoinsNone, IsLinked-with_vert, IsValid-with_vert, IsLinked-with_edge}
use Rattle.mesh_model.proofs.Makings.{IsValid-with_edge, IsSimple-with_edge, IsLinked-with_face, IsValid-with_face}

-- ---- A VERTEX

pub IsLinked-with_vert_like : (c : Complex) (p : Point) (like : Option VertName) → IsLinked c
    → IsLinked (with_vert_like c p like)
IsLinked-with_vert_like c p like h = IsLinked-with_vert c (record { point = p; vals = vert_vals_like c like })
    (record {
      vals = vert_vals_like-has (λ vals. length vals ≡ width c Verts) c like (length-zeros (width c Verts))
          (λ n r is. (h.verts n r is).vals);
    }) h

pub IsValid-with_vert_like : (c : Complex) (p : Point) (like : Option VertName) → length c.verts < MAX_VERTS
    → IsTrue (is_on_grid p) → IsValid c → IsValid (with_vert_like c p like)
IsValid-with_vert_like c p like few grid h =
    IsValid-with_vert c (record { point = p; vals = vert_vals_like c like }) few
    (record {
      vals = vert_vals_like-has (λ vals. length vals ≡ width c Verts) c like (length-zeros (width c Verts))
          (λ n r is. (h.linked.verts n r is).vals);
    })
    (record {
      point = grid;
      vals =
          vert_vals_like-has (λ vals. list_all is_in_range vals ≡ true) c like (in_range-zeros (width c Verts))
          (λ n r is. (h.verts n r is).vals);
    }) h

pub IsSimple-with_vert_like : (c : Complex) (p : Point) (like : Option VertName) → IsSimple c
    → IsSimple (with_vert_like c p like)
IsSimple-with_vert_like c p like h = h

-- ---- AN EDGE

pub IsLinked-with_edge_like : (c : Complex) (v w : VertName) (like : Option EdgeName) → IsThere c.verts v.0
    → IsThere c.verts w.0 → v.0 ≢ w.0 → IsLinked c → IsLinked (with_edge_like c v w like)
IsLinked-with_edge_like c v w like there_v there_w differ h =
    IsLinked-with_edge c (record { a = v; b = w; vals = edge_vals_like c like })
    (record {
      a = there_v;
      b = there_w;
      differ = differ;
      vals =
          edge_vals_like-has (λ vals. length vals ≡ width c Edges) c like (length-zeros (width c Edges))
          (λ n r is. (h.edges n r is).vals);
    }) h

pub IsValid-with_edge_like : (c : Complex) (v w : VertName) (like : Option EdgeName) → length c.edges < MAX_EDGES
    → IsThere c.verts v.0 → IsThere c.verts w.0 → v.0 ≢ w.0 → IsValid c → IsValid (with_edge_like c v w like)
IsValid-with_edge_like c v w like few there_v there_w differ h =
    IsValid-with_edge c (record { a = v; b = w; vals = edge_vals_like c like }) few
    (record {
      a = there_v;
      b = there_w;
      differ = differ;
      vals =
          edge_vals_like-has (λ vals. length vals ≡ width c Edges) c like (length-zeros (width c Edges))
          (λ n r is. (h.linked.edges n r is).vals);
    })
    (record {
      vals = edge_vals_like-has (λ vals. list_all is_in_range vals ≡ true) c like
          (in_range-zeros (width c Edges)) (λ n r is. (h.edges n r is).vals);
    }) h

pub IsSimple-with_edge_like : (c : Complex) (v w : VertName) (like : Option EdgeName) → JoinsNone c.edges v w
    → IsSimple c → IsSimple (with_edge_like c v w like)
IsSimple-with_edge_like c v w like none h =
    IsSimple-with_edge c (record { a = v; b = w; vals = edge_vals_like c like }) none h

-- ---- A FACE

-- the vertex and the edge of each corner are there
abbrev pub AreThere : Complex → List (VertName × EdgeName) → Type 0
AreThere c polygon = All (λ (k : VertName × EdgeName). IsThere c.verts k.0.0 × IsThere c.edges k.1.0) polygon

corners_linked : (c : Complex) (polygon : List (VertName × EdgeName)) → AreThere c polygon
    → All (IsCornerLinked c) (map (corner_from c) polygon)
corners_linked c polygon there =
    All-map (IsCornerLinked c) (corner_from c) polygon (λ i d less. let k = there i d less in
    record { vert = k.0; edge = k.1; vals = length-zeros (width c Corners) })

corners_valid : (c : Complex) (polygon : List (VertName × EdgeName)) → All IsCornerValid (map (corner_from c) polygon)
corners_valid c polygon =
    All-map IsCornerValid (corner_from c) polygon (λ i d less. record { vals = in_range-zeros (width c Corners) })

pub IsLinked-with_face_like : (c : Complex) (polygon : List (VertName × EdgeName)) (like : Option FaceName)
    → 0 < length polygon → AreThere c polygon → IsLinked c → IsLinked (with_face_like c polygon like)
IsLinked-with_face_like c polygon like some there h =
    IsLinked-with_face c (record { corners = map (corner_from c) polygon; vals = face_vals_like c like })
    (record {
      some = omega (arith, length-map polygon (corner_from c));
      corners = corners_linked c polygon there;
      vals = face_vals_like-has (λ vals. length vals ≡ width c Faces) c like (length-zeros (width c Faces))
          (λ n r is. (h.faces n r is).vals);
    }) h

pub IsValid-with_face_like : (c : Complex) (polygon : List (VertName × EdgeName)) (like : Option FaceName)
    → length c.faces < MAX_FACES → corner_sum c.faces + length polygon ≤ MAX_CORNERS → AreThere c polygon
    → IsPolygon c.edges (map (corner_from c) polygon)
    → IsValid c → IsValid (with_face_like c polygon like)
IsValid-with_face_like c polygon like few few_corners there closed h =
    IsValid-with_face c (record { corners = map (corner_from c) polygon; vals = face_vals_like c like }) few
    (omega (arith, length-map polygon (corner_from c)))
    (record {
      some = let least = closed.least in omega arith;
      corners = corners_linked c polygon there;
      vals = face_vals_like-has (λ vals. length vals ≡ width c Faces) c like (length-zeros (width c Faces))
          (λ n r is. (h.linked.faces n r is).vals);
    })
    (record {
      polygon = closed;
      corners = corners_valid c polygon;
      vals = face_vals_like-has (λ vals. list_all is_in_range vals ≡ true) c like (in_range-zeros (width c Faces))
          (λ n r is. (h.faces n r is).vals);
      material = face_vals_like-has (λ vals. allows (is_material c) (number_in c.layers.faces material_layer vals)
          ≡ true) c like (allows-zeros (is_material c) c.layers.faces material_layer (width c Faces) (material-zero c))
          (λ n r is. (h.faces n r is).material);
      smooth = face_vals_like-has (λ vals. allows is_smooth (number_in c.layers.faces smooth_layer vals) ≡ true) c like
          (allows-zeros is_smooth c.layers.faces smooth_layer (width c Faces) refl) (λ n r is. (h.faces n r is).smooth);
    }) h

pub IsSimple-with_face_like : (c : Complex) (polygon : List (VertName × EdgeName)) (like : Option FaceName) → IsSimple c
    → IsSimple (with_face_like c polygon like)
IsSimple-with_face_like c polygon like h = h

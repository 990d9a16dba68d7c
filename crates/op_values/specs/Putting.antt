-- Rows of values with other numbers, element by element.
use Rattle.std.specs.Prelude.{◌≡◌, ℕ, ◌+◌, ℤ, true, List, [], ◌++◌, length, map, take, drop, slice_index_or}
use Rattle.std.specs.List.{list_all}
use Rattle.cust_data.specs.Layers.{Layer}
use Rattle.cust_data.specs.declared.rule.Rule.TheVariants.{Copy}
use Rattle.mesh_model.specs.Table.{update, changed_names, allows}
use Rattle.mesh_model.specs.Complex.{Complex, layers_of, width, material_layer, smooth_layer}
use Rattle.mesh_model.specs.Values.{number_in}
use Rattle.mesh_model.specs.Valid.{is_in_range, is_material, is_smooth}
use Rattle.mesh_model.specs.Elements.{Elements, is_among}
use Rattle.mesh_model.specs.Closure.{is_edge_among, is_face_among}
use Rattle.mesh_model.specs.declared.names.Kind.{Kind}
use Rattle.mesh_model.specs.declared.names.Kind.TheVariants.{Verts, Edges, Corners, Faces}
use Rattle.mesh_model.specs.declared.names.VertName.{VertName}
use Rattle.mesh_model.specs.declared.names.EdgeName.{EdgeName}
use Rattle.mesh_model.specs.declared.names.FaceName.{FaceName}
use Rattle.mesh_model.specs.declared.records.VertRec.{VertRec}
use Rattle.mesh_model.specs.declared.records.EdgeRec.{EdgeRec}
use Rattle.mesh_model.specs.declared.records.CornerRec.{CornerRec}
use Rattle.mesh_model.specs.declared.records.FaceRec.{FaceRec}

-- no layer stands at a position past the last
abbrev pub no_layer : Layer
no_layer = record { name = []; width = 0; rule = Copy }

-- the layer at a position
abbrev pub layer_at : Complex → Kind → ℕ → Layer
layer_at c kind k = slice_index_or (layers_of c.layers kind) k no_layer

-- a row with other numbers from a place on
abbrev pub put_from : ℕ → List ℤ → List ℤ → List ℤ
put_from from numbers row = take from row ++ (numbers ++ drop (from + length numbers) row)

-- ---- one element with another row

abbrev pub with_vert_row : (List ℤ → List ℤ) → VertRec → VertRec
with_vert_row f r = record r { vals = f r.vals }

abbrev pub with_edge_row : (List ℤ → List ℤ) → EdgeRec → EdgeRec
with_edge_row f r = record r { vals = f r.vals }

abbrev pub with_face_row : (List ℤ → List ℤ) → FaceRec → FaceRec
with_face_row f r = record r { vals = f r.vals }

abbrev pub with_corner_row : (List ℤ → List ℤ) → CornerRec → CornerRec
with_corner_row f k = record k { vals = f k.vals }

abbrev pub with_corner_rows : (List ℤ → List ℤ) → FaceRec → FaceRec
with_corner_rows f r = record r { corners = map (with_corner_row f) r.corners }

unfoldable pub vert_put : (List ℤ → List ℤ) → Complex → VertName → Complex
vert_put f c v = record c { verts = update c.verts v.0 (with_vert_row f) }

unfoldable pub edge_put : (List ℤ → List ℤ) → Complex → EdgeName → Complex
edge_put f c e = record c { edges = update c.edges e.0 (with_edge_row f) }

unfoldable pub face_put : (List ℤ → List ℤ) → Complex → FaceName → Complex
face_put f c x = record c { faces = update c.faces x.0 (with_face_row f) }

unfoldable pub corners_put : (List ℤ → List ℤ) → Complex → FaceName → Complex
corners_put f c x = record c { faces = update c.faces x.0 (with_corner_rows f) }

-- ---- some elements with other rows

unfoldable pub verts_put : (List ℤ → List ℤ) → Complex → List VertName → Complex
verts_put f c vs = record c { verts = changed_names (λ n. is_among vs (record { 0 = n })) (with_vert_row f) c.verts }

unfoldable pub edges_put : (List ℤ → List ℤ) → Complex → List EdgeName → Complex
edges_put f c es = record c {
  edges = changed_names (λ n. is_edge_among es (record { 0 = n })) (with_edge_row f) c.edges;
}

unfoldable pub faces_put : (List ℤ → List ℤ) → Complex → List FaceName → Complex
faces_put f c fs = record c {
  faces = changed_names (λ n. is_face_among fs (record { 0 = n })) (with_face_row f) c.faces;
}

unfoldable pub all_corners_put : (List ℤ → List ℤ) → Complex → List FaceName → Complex
all_corners_put f c fs = record c {
  faces = changed_names (λ n. is_face_among fs (record { 0 = n })) (with_corner_rows f) c.faces;
}

-- elements of a kind with other rows, for corners all those of some faces
abbrev pub rows_put : (List ℤ → List ℤ) → Kind → Complex → Elements → Complex
rows_put f Verts c x = verts_put f c x.verts
rows_put f Edges c x = edges_put f c x.edges
rows_put f Corners c x = all_corners_put f c x.faces
rows_put f Faces c x = faces_put f c x.faces

-- ---- changes of rows after which a sound complex is sound

-- rows stay as wide, and in range
pub record KeepRows (f : List ℤ → List ℤ) (wide : ℕ) : Type 0 where
  pub long : (row : List ℤ) → length row ≡ wide → length (f row) ≡ wide
  pub range : (row : List ℤ) → length row ≡ wide → list_all is_in_range row ≡ true → list_all is_in_range (f row) ≡ true

-- besides, the materials and smoothing groups of faces can be
pub record KeepFaceRows (f : List ℤ → List ℤ) (c : Complex) : Type 0 where
  pub rows : KeepRows f (width c Faces)
  pub material : (row : List ℤ) → length row ≡ width c Faces
      → allows (is_material c) (number_in c.layers.faces material_layer row) ≡ true
      → allows (is_material c) (number_in c.layers.faces material_layer (f row)) ≡ true
  pub smooth : (row : List ℤ) → length row ≡ width c Faces
      → allows is_smooth (number_in c.layers.faces smooth_layer row) ≡ true
      → allows is_smooth (number_in c.layers.faces smooth_layer (f row)) ≡ true

abbrev pub AreAllowed : (List ℤ → List ℤ) → Kind → Complex → Type 0
AreAllowed f Verts c = KeepRows f (width c Verts)
AreAllowed f Edges c = KeepRows f (width c Edges)
AreAllowed f Corners c = KeepRows f (width c Corners)
AreAllowed f Faces c = KeepFaceRows f c

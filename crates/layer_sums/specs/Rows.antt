-- Sums of layers, worked out.
use Rattle.std.specs.Prelude.{◌≡◌, ℕ, ℤ, pos, neg_ℤ, List, [], ◌∷◌, codes}
use Rattle.std.specs.declared.option.Option.TheVariants.{None, Some}
use Rattle.cust_data.specs.Layers.{Layer}
use Rattle.cust_data.specs.declared.rule.Rule.TheVariants.{Mix, Copy}
use Rattle.mesh_model.specs.Complex.{Complex, no_complex, uv_layer, material_layer, smooth_layer}
use Rattle.mesh_model.specs.Models.{vert, edge, square}
use Rattle.mesh_model.specs.declared.names.Kind.TheVariants.{Verts, Edges, Corners, Faces}
use Rattle.mesh_model.specs.declared.records.CornerRec.{CornerRec}
use Rattle.mesh_model.specs.declared.records.VertRec.{VertRec}
use Rattle.layer_sums.specs.Sums.{rows_of, plus, row_sums, layer_sums}

-- a layer of so many numbers
abbrev layer : List ℕ → ℕ → Layer
layer name width = record { name = name; width = width; rule = Mix }

-- a vertex at the origin with this row
abbrev at_origin : List ℤ → VertRec
at_origin row = record { point = record { x = pos 0; y = pos 0; z = pos 0 }; vals = row }

-- a corner with this row
abbrev with_row : List ℤ → CornerRec
with_row row = record { vert = vert 0; edge = edge 0; vals = row }

-- two vertices and a name that was given, an edge, and two faces of one corner and of two, with layers of each kind
abbrev pub valued : Complex
valued = record no_complex {
  verts = Some (at_origin (pos 5 ∷ pos 1 ∷ [])) ∷ None ∷ Some (at_origin (neg_ℤ (pos 8) ∷ pos 2 ∷ [])) ∷ [];
  edges = Some (record { a = vert 0; b = vert 2; vals = pos 1 ∷ pos 2 ∷ pos 3 ∷ neg_ℤ (pos 4) ∷ [] }) ∷ [];
  faces = Some (record { corners = with_row (pos 7 ∷ pos 0 ∷ pos 1 ∷ []) ∷ []; vals = pos 2 ∷ pos 3 ∷ [] })
      ∷ Some (record {
        corners = with_row (pos 0 ∷ pos 9 ∷ neg_ℤ (pos 3) ∷ []) ∷ with_row (pos 0 ∷ pos 0 ∷ pos 1 ∷ []) ∷ [];
        vals = pos 1 ∷ pos 0 ∷ [];
      })
      ∷ None ∷ [];
  layers = record {
    verts = layer (codes "weight") 1 ∷ layer (codes "mark") 1 ∷ [];
    edges = layer (codes "crease") 4 ∷ [];
    corners = uv_layer ∷ layer (codes "tint") 1 ∷ [];
    faces = material_layer ∷ smooth_layer ∷ [];
  };
}

-- each layer's sums over all elements of its kind, corners over all faces
abbrev pub LayersSummed : Type 0
LayersSummed =
    (layer_sums valued Verts (codes "weight") ≡ neg_ℤ (pos 3) ∷ [])
    × (layer_sums valued Verts (codes "mark") ≡ pos 3 ∷ [])
    × (layer_sums valued Edges (codes "crease") ≡ pos 1 ∷ pos 2 ∷ pos 3 ∷ neg_ℤ (pos 4) ∷ [])
    × (layer_sums valued Corners (codes "uv") ≡ pos 7 ∷ pos 9 ∷ [])
    × (layer_sums valued Corners (codes "tint") ≡ neg_ℤ (pos 1) ∷ [])
    × (layer_sums valued Faces (codes "material") ≡ pos 3 ∷ [])
    × (layer_sums valued Faces (codes "smooth") ≡ pos 3 ∷ [])

-- a kind without such a layer has no sums, and without elements they are 0
abbrev pub NothingSummed : Type 0
NothingSummed =
    (layer_sums valued Edges (codes "weight") ≡ [])
    × (layer_sums square Corners (codes "uv") ≡ pos 0 ∷ pos 0 ∷ [])
    × (layer_sums (record no_complex { layers = valued.layers }) Edges (codes "crease")
    ≡ pos 0 ∷ pos 0 ∷ pos 0 ∷ pos 0 ∷ [])

-- rows one after another
abbrev pub RowsListed : Type 0
RowsListed =
    (rows_of valued Verts ≡ (pos 5 ∷ pos 1 ∷ []) ∷ (neg_ℤ (pos 8) ∷ pos 2 ∷ []) ∷ [])
    × (rows_of valued Corners
    ≡ (pos 7 ∷ pos 0 ∷ pos 1 ∷ []) ∷ (pos 0 ∷ pos 9 ∷ neg_ℤ (pos 3) ∷ []) ∷ (pos 0 ∷ pos 0 ∷ pos 1 ∷ []) ∷ [])
    × (row_sums valued Corners ≡ pos 7 ∷ pos 9 ∷ neg_ℤ (pos 1) ∷ [])
    × (plus (pos 1 ∷ neg_ℤ (pos 2) ∷ []) (neg_ℤ (pos 3) ∷ pos 9 ∷ []) ≡ neg_ℤ (pos 2) ∷ pos 7 ∷ [])

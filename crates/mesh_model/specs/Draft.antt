-- A draft: the complex that its columns show, what holds of it, and the tables of edges and corners as a polygon is
-- made.
use Rattle.std.specs.Prelude.{◌≡◌, ℕ, List, [], ◌∷◌, ◌++◌, length, map, drop, take, Bool}
use Rattle.std.specs.declared.option.Option.{Option}
use Rattle.std.specs.declared.option.Option.TheVariants.{None, Some}
use Rattle.std.specs.List.{position, list_any, zip}
use Rattle.cust_data.specs.Layers.{Layer, total, zeros, same_name}
use Rattle.mesh_model.specs.Table.{passes}
use Rattle.mesh_model.specs.NameSet.{is_in}
use Rattle.mesh_model.specs.Complex.{Complex, no_layers, no_complex, uv_layer}
use Rattle.mesh_model.specs.Incidence.{uses_edge, edge_joining}
use Rattle.mesh_model.specs.Values.{row_given}
use Rattle.mesh_model.specs.Valid.{IsLinked}
use Rattle.mesh_model.specs.Columns.{VertTable, EdgeTable, FaceTable}
use Rattle.mesh_model.specs.LayerRows.{due_layers}
use Rattle.mesh_model.specs.EdgeIndexes.{Knows}
use Rattle.mesh_model.specs.declared.layer_rows.Due.{Due}
use Rattle.mesh_model.specs.declared.draft.DraftCorner.{DraftCorner}
use Rattle.mesh_model.specs.declared.edge_index.EdgeIndex.{EdgeIndex}
use Rattle.mesh_model.specs.declared.names.VertName.{VertName}
use Rattle.mesh_model.specs.declared.names.EdgeName.{EdgeName}
use Rattle.mesh_model.specs.declared.records.EdgeRec.{EdgeRec}
use Rattle.mesh_model.specs.declared.records.CornerRec.{CornerRec}

-- the complex that columns show
abbrev pub complex_of : VertTable → EdgeTable → FaceTable → List (List ℕ) → List (List ℕ) → Complex
complex_of verts edges faces materials libraries = record {
  verts = verts.table;
  edges = edges.table;
  faces = faces.table;
  layers = record { verts = verts.layers; edges = edges.layers; corners = faces.corner_layers; faces = faces.layers };
  materials = materials;
  libraries = libraries;
}

-- no element, and the layers that are still to be made of corners and of faces
abbrev pub due_model : Due → Due → Complex
due_model corners faces =
    record no_complex { layers = record no_layers { corners = due_layers corners; faces = due_layers faces } }

-- the complex is linked, the flags tell which edges have a corner, no corner stands open, and the index knows edges of
-- it
pub record IsDraft (c : Complex) (flags : List Bool) (corners : List CornerRec) (index : EdgeIndex) : Type 0 where
  pub linked : IsLinked c
  pub used : (e : EdgeName) → is_in flags e.0 ≡ list_any (passes (uses_edge e)) c.faces
  pub closed : corners ≡ []
  pub knows : Knows index c.edges

-- ---- NAMES OF MATERIALS AND LIBRARIES

-- the names with the one that was found, or else a new one behind them; and its position
abbrev pub with_found_name : List (List ℕ) → List ℕ → Option ℕ → List (List ℕ) × ℕ
with_found_name names name None = (names ++ name ∷ [], length names)
with_found_name names name (Some k) = (names, k)

-- the names with one more if it is new; and its position
abbrev pub with_name : List (List ℕ) → List ℕ → List (List ℕ) × ℕ
with_name names name = with_found_name names name (position (same_name name) names)

-- ---- EDGES AND CORNERS AS A POLYGON IS MADE

-- the table of edges with the edge that was found, or else with a new one; and its name
abbrev pub found_in : List Layer → List (Option EdgeRec) → VertName → VertName → Option EdgeName
    → List (Option EdgeRec) × EdgeName
found_in layers edges v w None =
    (edges ++ Some (record { a = v; b = w; vals = zeros (total layers) }) ∷ [], record { 0 = length edges })
found_in layers edges v w (Some e) = (edges, e)

-- the table of edges with one that joins two vertices; and its name
abbrev pub edge_in : List Layer → List (Option EdgeRec) → VertName → VertName → List (Option EdgeRec) × EdgeName
edge_in layers edges v w = found_in layers edges v w (edge_joining edges v w)

-- each corner of a polygon, and the vertex of the next one
abbrev pub turned : List DraftCorner → List (DraftCorner × VertName)
turned corners = let verts = map (λ (k : DraftCorner). k.vert) corners in zip corners (drop 1 verts ++ take 1 verts)

-- the edges, and a corner for each that is told, in order
abbrev pub corners_in : List Layer → List Layer → List (Option EdgeRec) → List (DraftCorner × VertName)
    → List (Option EdgeRec) × List CornerRec
corners_in layers corner_layers edges [] = (edges, [])
corners_in layers corner_layers edges (k ∷ ks) =
    let found = edge_in layers edges k.0.vert k.1 in
    let rest = corners_in layers corner_layers found.0 ks in (
      rest.0,
      record {
        vert = k.0.vert;
        edge = found.1;
        vals =
            row_given ((uv_layer, k.0.uv) ∷ []) corner_layers;
      } ∷ rest.1,
    )

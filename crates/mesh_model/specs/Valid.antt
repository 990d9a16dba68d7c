-- When a complex is linked, valid and simple.
use Rattle.std.specs.Prelude.{◌≡◌, ◌≢◌, ℕ, ℤ, pos, neg_ℤ, int_le, ◌<◌, ◌≤◌, Bool, true, not, ◌&&◌, IsTrue, List, []}
use Rattle.std.specs.Prelude.{◌∷◌, length, zip}
use Rattle.std.specs.declared.option.Option.{Option}
use Rattle.std.specs.declared.option.Option.TheVariants.{Some}
use Rattle.std.specs.List.{All, list_all}
use Rattle.cust_data.specs.Layers.{AreLayers}
use Rattle.mesh_model.specs.Table.{at, IsThere, Each, passes, allows}
use Rattle.mesh_model.specs.Complex.{KindLayers, Complex, width, corner_sum, verts_of, material_layer, smooth_layer}
use Rattle.mesh_model.specs.Values.{number_in}
use Rattle.mesh_model.specs.Incidence.{joins, sides}
use Rattle.mesh_model.specs.Elements.{is_among}
use Rattle.mesh_model.specs.declared.limits.TheConstants.{MAX_VALUE, MAX_VERTS, MAX_EDGES, MAX_FACES, MAX_CORNERS}
use Rattle.mesh_model.specs.declared.limits.TheConstants.{MIN_SIDES, MAX_SIDES}
use Rattle.mesh_model.specs.declared.names.Kind.TheVariants.{Verts, Edges, Corners, Faces}
use Rattle.mesh_model.specs.declared.names.VertName.{VertName}
use Rattle.mesh_model.specs.declared.records.Point.{Point}
use Rattle.mesh_model.specs.declared.records.VertRec.{VertRec}
use Rattle.mesh_model.specs.declared.records.EdgeRec.{EdgeRec}
use Rattle.mesh_model.specs.declared.records.CornerRec.{CornerRec}
use Rattle.mesh_model.specs.declared.records.FaceRec.{FaceRec}

-- ---- LINKED: what a record names is there

-- the layers of each kind are what a layer set can hold
pub record AreKindLayers (layers : KindLayers) : Type 0 where
  pub verts : AreLayers layers.verts
  pub edges : AreLayers layers.edges
  pub corners : AreLayers layers.corners
  pub faces : AreLayers layers.faces

-- a vertex has a value for each number of the layers
pub record IsVertLinked (c : Complex) (r : VertRec) : Type 0 where
  pub vals : length r.vals ≡ width c Verts

-- an edge's ends are there, and they differ
pub record IsEdgeLinked (c : Complex) (e : EdgeRec) : Type 0 where
  pub a : IsThere c.verts e.a.0
  pub b : IsThere c.verts e.b.0
  pub differ : e.a.0 ≢ e.b.0
  pub vals : length e.vals ≡ width c Edges

-- a corner's vertex and edge are there
pub record IsCornerLinked (c : Complex) (k : CornerRec) : Type 0 where
  pub vert : IsThere c.verts k.vert.0
  pub edge : IsThere c.edges k.edge.0
  pub vals : length k.vals ≡ width c Corners

-- a face has a corner, and each of its corners is linked
pub record IsFaceLinked (c : Complex) (f : FaceRec) : Type 0 where
  pub some : 0 < length f.corners
  pub corners : All (IsCornerLinked c) f.corners
  pub vals : length f.vals ≡ width c Faces

-- the layers can be held, and each record is linked
pub record IsLinked (c : Complex) : Type 0 where
  pub layers : AreKindLayers c.layers
  pub verts : Each (IsVertLinked c) c.verts
  pub edges : Each (IsEdgeLinked c) c.edges
  pub faces : Each (IsFaceLinked c) c.faces

-- ---- VALID: besides, faces are polygons, numbers are in range, and the limits hold

-- a number from -1,000,000,000 to 1,000,000,000
abbrev pub is_in_range : ℤ → Bool
is_in_range x = int_le (neg_ℤ MAX_VALUE) x && int_le x MAX_VALUE

-- each coordinate is in range
abbrev pub is_on_grid : Point → Bool
is_on_grid p = is_in_range p.x && (is_in_range p.y && is_in_range p.z)

-- no vertex stands twice in a list
abbrev pub are_distinct : List VertName → Bool
are_distinct [] = true
are_distinct (v ∷ vs) = not (is_among vs v) && are_distinct vs

-- a corner's edge joins the two vertices of a side
abbrev pub is_along_side : List (Option EdgeRec) → CornerRec × (VertName × VertName) → Bool
is_along_side edges k = passes (joins k.1.0 k.1.1) (at edges k.0.edge.0)

-- corners close: each one's edge joins its vertex and the next one's, the last one's its vertex and the first one's
abbrev pub is_closed : List (Option EdgeRec) → List CornerRec → Bool
is_closed edges corners = list_all (is_along_side edges) (zip corners (sides (verts_of corners)))

-- corners are a polygon: 3 to 4,096 of them, at distinct vertices, and they close
pub record IsPolygon (edges : List (Option EdgeRec)) (corners : List CornerRec) : Type 0 where
  pub least : MIN_SIDES ≤ length corners
  pub most : length corners ≤ MAX_SIDES
  pub distinct : IsTrue (are_distinct (verts_of corners))
  pub closed : IsTrue (is_closed edges corners)

-- a vertex is on the grid, and its values are in range
pub record IsVertValid (r : VertRec) : Type 0 where
  pub point : IsTrue (is_on_grid r.point)
  pub vals : IsTrue (list_all is_in_range r.vals)

-- an edge's values are in range
pub record IsEdgeValid (e : EdgeRec) : Type 0 where
  pub vals : IsTrue (list_all is_in_range e.vals)

-- a corner's values are in range
pub record IsCornerValid (k : CornerRec) : Type 0 where
  pub vals : IsTrue (list_all is_in_range k.vals)

-- from 0 to the number of materials
abbrev pub is_material : Complex → ℤ → Bool
is_material c n = int_le (pos 0) n && int_le n (pos (length c.materials))

-- at least 0
abbrev pub is_smooth : ℤ → Bool
is_smooth n = int_le (pos 0) n

-- a face is a polygon, its values and those of its corners are in range, and its material and smoothing group can be
pub record IsFaceValid (c : Complex) (f : FaceRec) : Type 0 where
  pub polygon : IsPolygon c.edges f.corners
  pub corners : All IsCornerValid f.corners
  pub vals : IsTrue (list_all is_in_range f.vals)
  pub material : IsTrue (allows (is_material c) (number_in c.layers.faces material_layer f.vals))
  pub smooth : IsTrue (allows is_smooth (number_in c.layers.faces smooth_layer f.vals))

-- the next names and the number of live corners are within the limits
pub record IsWithinLimits (c : Complex) : Type 0 where
  pub verts : length c.verts ≤ MAX_VERTS
  pub edges : length c.edges ≤ MAX_EDGES
  pub faces : length c.faces ≤ MAX_FACES
  pub corners : corner_sum c.faces ≤ MAX_CORNERS

-- a complex is linked, its records are valid, and the limits hold
pub record IsValid (c : Complex) : Type 0 where
  pub linked : IsLinked c
  pub verts : Each IsVertValid c.verts
  pub edges : Each IsEdgeValid c.edges
  pub faces : Each (IsFaceValid c) c.faces
  pub limits : IsWithinLimits c

-- ---- SIMPLE: no two edges have the same two ends

abbrev pub IsSimple : Complex → Type 0
IsSimple c = (m n : ℕ) (d e : EdgeRec) → at c.edges m ≡ Some d → at c.edges n ≡ Some e → IsTrue (joins d.a d.b e)
    → m ≡ n

-- a complex as a session keeps it: valid and simple
pub record IsSound (c : Complex) : Type 0 where
  pub valid : IsValid c
  pub simple : IsSimple c

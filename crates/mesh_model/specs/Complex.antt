-- The incidence complex: a table of records for each kind of element, the layers of their values, and two lists of
-- names. The length of a table is the next name of its kind.
use Rattle.std.specs.Prelude.{ℕ, Bool, List, [], ◌∷◌, length, map, is_some, codes}
use Rattle.std.specs.declared.option.Option.{Option}
use Rattle.std.specs.declared.option.Option.TheVariants.{None, Some}
use Rattle.std.specs.List.{sum_by}
use Rattle.cust_data.specs.Layers.{Layer, total}
use Rattle.cust_data.specs.declared.rule.Rule.TheVariants.{Mix, Copy}
use Rattle.mesh_model.specs.Table.{at}
use Rattle.mesh_model.specs.declared.names.VertName.{VertName}
use Rattle.mesh_model.specs.declared.names.Elem.{Elem}
use Rattle.mesh_model.specs.declared.names.Elem.TheVariants.{Vert, Edge, Face}
use Rattle.mesh_model.specs.declared.names.Kind.{Kind}
use Rattle.mesh_model.specs.declared.names.Kind.TheVariants.{Verts, Edges, Corners, Faces}
use Rattle.mesh_model.specs.declared.records.VertRec.{VertRec}
use Rattle.mesh_model.specs.declared.records.EdgeRec.{EdgeRec}
use Rattle.mesh_model.specs.declared.records.CornerRec.{CornerRec}
use Rattle.mesh_model.specs.declared.records.FaceRec.{FaceRec}
use Rattle.mesh_model.specs.declared.records.Counters.{Counters}

-- the layers of each kind, in order
pub record KindLayers : Type 0 where
  pub verts : List Layer
  pub edges : List Layer
  pub corners : List Layer
  pub faces : List Layer

-- what is there at each name, the layers, the names of the materials and of their libraries
pub record Complex : Type 0 where
  pub verts : List (Option VertRec)
  pub edges : List (Option EdgeRec)
  pub faces : List (Option FaceRec)
  pub layers : KindLayers
  pub materials : List (List ℕ)
  pub libraries : List (List ℕ)

-- no layer
abbrev pub no_layers : KindLayers
no_layers = record { verts = []; edges = []; corners = []; faces = [] }

-- no element and no name given yet, no layer, no material and no library
abbrev pub no_complex : Complex
no_complex = record { verts = []; edges = []; faces = []; layers = no_layers; materials = []; libraries = [] }

-- where a corner lies in the texture
abbrev pub uv_layer : Layer
uv_layer = record { name = codes "uv"; width = 2; rule = Mix }

-- a face's material, counted from 1 in the list of materials; 0 is none
abbrev pub material_layer : Layer
material_layer = record { name = codes "material"; width = 1; rule = Copy }

-- a face's smoothing group; 0 is none
abbrev pub smooth_layer : Layer
smooth_layer = record { name = codes "smooth"; width = 1; rule = Copy }

-- the layers that every model has from its beginning
abbrev pub fixed_layers : KindLayers
fixed_layers = record { verts = []; edges = []; corners = uv_layer ∷ []; faces = material_layer ∷ smooth_layer ∷ [] }

-- a model's beginning: no element, and the fixed layers
abbrev pub new_model : Complex
new_model = record no_complex { layers = fixed_layers }

-- the layers of a kind
abbrev pub layers_of : KindLayers → Kind → List Layer
layers_of layers Verts = layers.verts
layers_of layers Edges = layers.edges
layers_of layers Corners = layers.corners
layers_of layers Faces = layers.faces

-- how many values each element of a kind has
abbrev pub width : Complex → Kind → ℕ
width c kind = total (layers_of c.layers kind)

-- whether an element is there
abbrev pub has : Complex → Elem → Bool
has c (Vert v) = is_some (at c.verts v.0)
has c (Edge e) = is_some (at c.edges e.0)
has c (Face f) = is_some (at c.faces f.0)

-- the corners of the face at a name, and none where no face stands
abbrev pub corners_of : Option FaceRec → List CornerRec
corners_of None = []
corners_of (Some f) = f.corners

-- the vertices round a face, in order
abbrev pub verts_of : List CornerRec → List VertName
verts_of corners = map (λ (k : CornerRec). k.vert) corners

-- the number of live corners
abbrev pub corner_sum : List (Option FaceRec) → ℕ
corner_sum faces = sum_by (λ f. length (corners_of f)) faces

-- the next names, and the number of live corners
abbrev pub counters_of : Complex → Counters
counters_of c = record {
  verts = length c.verts;
  edges = length c.edges;
  faces = length c.faces;
  corners =
      corner_sum c.faces;
}

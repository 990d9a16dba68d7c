-- set: the numbers of a layer, at elements of a kind, or at each corner of some faces.
use Rattle.std.specs.Prelude.{ℕ, ◌==◌, ℤ, Bool, true, not, ◌&&◌, ◌||◌, is_some, List, [], ◌∷◌, map, length, Result}
use Rattle.std.specs.declared.option.Option.{Option}
use Rattle.std.specs.Option.{option_map_or}
use Rattle.std.specs.List.{list_all, find}
use Rattle.cust_data.specs.Layers.{Layer, same_name, find_layer}
use Rattle.mesh_model.specs.Table.{passes, changed_names}
use Rattle.mesh_model.specs.Complex.{Complex, layers_of, material_layer, smooth_layer}
use Rattle.mesh_model.specs.Elements.{Elements, is_among}
use Rattle.mesh_model.specs.Closure.{is_edge_among, is_face_among}
use Rattle.mesh_model.specs.Values.{same_layer, with_numbers}
use Rattle.mesh_model.specs.Refusals.{first_of, unless}
use Rattle.mesh_model.specs.Valid.{is_in_range, is_material, is_smooth}
use Rattle.mesh_model.specs.declared.names.Kind.{Kind}
use Rattle.mesh_model.specs.declared.names.Kind.TheVariants.{Verts, Edges, Corners, Faces}
use Rattle.mesh_model.specs.declared.records.VertRec.{VertRec}
use Rattle.mesh_model.specs.declared.records.EdgeRec.{EdgeRec}
use Rattle.mesh_model.specs.declared.records.CornerRec.{CornerRec}
use Rattle.mesh_model.specs.declared.records.FaceRec.{FaceRec}
use Rattle.mesh_model.specs.declared.refusal.Refusal.{Refusal}
use Rattle.mesh_model.specs.declared.refusal.Why.TheVariants.{NoLayer, BadValue}
use Rattle.op_slots.specs.declared.slots.Slots.{Slots}
use Rattle.mesh_passes.specs.Row.{row, only}

-- the layer of a name
abbrev pub layer_named : Complex → Kind → List ℕ → Option Layer
layer_named c kind name = find (λ (l : Layer). same_name l.name name) (layers_of c.layers kind)

-- a number that a layer can have: those of the fixed layers of faces are limited
abbrev pub is_allowed : Complex → Kind → Layer → ℤ → Bool
is_allowed c Faces l n = (not (same_layer material_layer l) || is_material c n)
    && (not (same_layer smooth_layer l) || is_smooth n)
is_allowed c _ l n = true

-- numbers that a layer can have: as many as it is wide, each in range and allowed
abbrev pub are_values : Complex → Kind → List ℤ → Layer → Bool
are_values c kind values l =
    (l.width == length values) && (list_all is_in_range values && list_all (is_allowed c kind l) values)

-- a row with other numbers of the layer of a name
abbrev pub with_layer_numbers : Complex → Kind → List ℕ → List ℤ → List ℤ → List ℤ
with_layer_numbers c kind name values row = option_map_or
    (λ k. with_numbers (layers_of c.layers kind) k values row) (find_layer (layers_of c.layers kind) name) row

-- other numbers of a layer at some vertices
unfoldable pub with_vert_numbers : Complex → Elements → List ℕ → List ℤ → Complex
with_vert_numbers c x name values = record c {
  verts = changed_names (λ n. is_among x.verts (record { 0 = n }))
      (λ (r : VertRec). record r { vals = with_layer_numbers c Verts name values r.vals }) c.verts;
}

-- at some edges
unfoldable pub with_edge_numbers : Complex → Elements → List ℕ → List ℤ → Complex
with_edge_numbers c x name values = record c {
  edges = changed_names (λ n. is_edge_among x.edges (record { 0 = n }))
      (λ (r : EdgeRec). record r { vals = with_layer_numbers c Edges name values r.vals }) c.edges;
}

-- at each corner of some faces
unfoldable pub with_corner_numbers : Complex → Elements → List ℕ → List ℤ → Complex
with_corner_numbers c x name values = record c {
  faces = changed_names (λ n. is_face_among x.faces (record { 0 = n }))
      (λ (r : FaceRec). record r {
        corners = map (λ (k : CornerRec). record k { vals = with_layer_numbers c Corners name values k.vals }) r.corners;
      }) c.faces;
}

-- at some faces
unfoldable pub with_face_numbers : Complex → Elements → List ℕ → List ℤ → Complex
with_face_numbers c x name values = record c {
  faces = changed_names (λ n. is_face_among x.faces (record { 0 = n }))
      (λ (r : FaceRec). record r { vals = with_layer_numbers c Faces name values r.vals }) c.faces;
}

-- the complex with other numbers of a layer of a kind
abbrev pub with_layer_set : Complex → Kind → Elements → List ℕ → List ℤ → Complex
with_layer_set c Verts x name values = with_vert_numbers c x name values
with_layer_set c Edges x name values = with_edge_numbers c x name values
with_layer_set c Corners x name values = with_corner_numbers c x name values
with_layer_set c Faces x name values = with_face_numbers c x name values

-- why a layer isn't set: the first condition that fails; nothing is made, so no limit can be passed
abbrev pub set_refusal : Kind → Elements → List ℕ → List ℤ → Complex → Option Refusal
set_refusal kind x name values c = first_of (
    unless (is_some (layer_named c kind name)) NoLayer
    ∷ unless (passes (are_values c kind values) (layer_named c kind name)) BadValue
    ∷ [])

-- the elements, and the complex with their numbers
abbrev pub set_result : Kind → Elements → List ℕ → List ℤ → Complex → Slots × Complex
set_result kind x name values c = (only x, with_layer_set c kind x name values)

abbrev pub set_row : Kind → Elements → List ℕ → List ℤ → Complex → Result (Slots × Complex) Refusal
set_row kind x name values c = row (set_refusal kind x name values c) (set_result kind x name values c)

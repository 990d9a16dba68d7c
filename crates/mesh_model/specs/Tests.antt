-- Whether a complex is linked, valid and simple, as tests that compute.
use Rattle.std.specs.Prelude.{ℕ, Bool, true, not, ◌&&◌, nat_le, nat_lt, nat_eq, List, [], ◌∷◌, length, is_some}
use Rattle.std.specs.declared.option.Option.{Option}
use Rattle.std.specs.List.{list_all, list_any}
use Rattle.cust_data.specs.Layers.{Layer, same_name, is_layer_name, is_width}
use Rattle.mesh_model.specs.Table.{at, passes, allows}
use Rattle.mesh_model.specs.Complex.{KindLayers, Complex, width, counters_of, verts_of, material_layer, smooth_layer}
use Rattle.mesh_model.specs.Values.{number_in}
use Rattle.mesh_model.specs.Incidence.{joins}
use Rattle.mesh_model.specs.Valid.{is_in_range, is_on_grid, are_distinct, is_closed, is_material, is_smooth}
use Rattle.mesh_model.specs.declared.limits.TheConstants.{MAX_VERTS, MAX_EDGES, MAX_FACES, MAX_CORNERS, MIN_SIDES}
use Rattle.mesh_model.specs.declared.limits.TheConstants.{MAX_SIDES}
use Rattle.mesh_model.specs.declared.names.Kind.TheVariants.{Verts, Edges, Corners, Faces}
use Rattle.mesh_model.specs.declared.records.VertRec.{VertRec}
use Rattle.mesh_model.specs.declared.records.EdgeRec.{EdgeRec}
use Rattle.mesh_model.specs.declared.records.CornerRec.{CornerRec}
use Rattle.mesh_model.specs.declared.records.FaceRec.{FaceRec}
use Rattle.mesh_model.specs.declared.records.Counters.{Counters}

-- ---- LINKED

-- no two of these layers have the same name
abbrev pub are_named_apart : List Layer → Bool
are_named_apart [] = true
are_named_apart (l ∷ ls) = list_all (λ (m : Layer). not (same_name l.name m.name)) ls && are_named_apart ls

abbrev pub are_layers : List Layer → Bool
are_layers layers =
    nat_le (length layers) 16 && (list_all (λ (l : Layer). is_layer_name l.name && is_width l.width) layers
    && are_named_apart layers)

abbrev pub are_kind_layers : KindLayers → Bool
are_kind_layers layers =
    are_layers layers.verts && (are_layers layers.edges && (are_layers layers.corners && are_layers layers.faces))

abbrev pub is_vert_linked : Complex → VertRec → Bool
is_vert_linked c r = nat_eq (length r.vals) (width c Verts)

abbrev pub is_edge_linked : Complex → EdgeRec → Bool
is_edge_linked c e =
    is_some (at c.verts e.a.0)
    && (is_some (at c.verts e.b.0) && (not (nat_eq e.a.0 e.b.0) && nat_eq (length e.vals) (width c Edges)))

abbrev pub is_corner_linked : Complex → CornerRec → Bool
is_corner_linked c k =
    is_some (at c.verts k.vert.0) && (is_some (at c.edges k.edge.0) && nat_eq (length k.vals) (width c Corners))

abbrev pub is_face_linked : Complex → FaceRec → Bool
is_face_linked c f =
    nat_lt 0 (length f.corners) && (list_all (is_corner_linked c) f.corners && nat_eq (length f.vals) (width c Faces))

abbrev pub is_linked : Complex → Bool
is_linked c =
    are_kind_layers c.layers
    && (list_all (allows (is_vert_linked c)) c.verts
    && (list_all (allows (is_edge_linked c)) c.edges && list_all (allows (is_face_linked c)) c.faces))

-- ---- VALID

-- a face may have so many corners
abbrev pub is_side_count : ℕ → Bool
is_side_count n = nat_le MIN_SIDES n && nat_le n MAX_SIDES

-- corners are a polygon
abbrev pub is_polygon : List (Option EdgeRec) → List CornerRec → Bool
is_polygon edges corners =
    is_side_count (length corners) && (are_distinct (verts_of corners) && is_closed edges corners)

abbrev pub is_vert_valid : VertRec → Bool
is_vert_valid r = is_on_grid r.point && list_all is_in_range r.vals

abbrev pub is_edge_valid : EdgeRec → Bool
is_edge_valid e = list_all is_in_range e.vals

abbrev pub is_corner_valid : CornerRec → Bool
is_corner_valid k = list_all is_in_range k.vals

abbrev pub is_face_valid : Complex → FaceRec → Bool
is_face_valid c f =
    is_polygon c.edges f.corners
    && (list_all is_corner_valid f.corners
    && (list_all is_in_range f.vals
    && (allows (is_material c) (number_in c.layers.faces material_layer f.vals)
    && allows is_smooth (number_in c.layers.faces smooth_layer f.vals))))

-- the next names and the number of live corners are within the limits
abbrev pub are_within_limits : Counters → Bool
are_within_limits n =
    nat_le n.verts MAX_VERTS && (nat_le n.edges MAX_EDGES && (nat_le n.faces MAX_FACES && nat_le n.corners MAX_CORNERS))

abbrev pub is_valid : Complex → Bool
is_valid c =
    is_linked c
    && (list_all (allows is_vert_valid) c.verts
    && (list_all (allows is_edge_valid) c.edges
    && (list_all (allows (is_face_valid c)) c.faces && are_within_limits (counters_of c))))

-- ---- SIMPLE

-- none of these edges joins the ends of this one
abbrev pub joins_none : List (Option EdgeRec) → EdgeRec → Bool
joins_none edges e = not (list_any (passes (joins e.a e.b)) edges)

-- no edge joins the ends of one before it
abbrev pub are_simple : List (Option EdgeRec) → Bool
are_simple [] = true
are_simple (o ∷ os) = allows (joins_none os) o && are_simple os

abbrev pub is_simple : Complex → Bool
is_simple c = are_simple c.edges

-- valid and simple
abbrev pub is_sound : Complex → Bool
is_sound c = is_valid c && is_simple c

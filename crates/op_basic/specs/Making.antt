-- Making: make_vert, make_edge and make_face, each with values 0.
use Rattle.std.specs.Prelude.{ℕ, ◌==◌, nat_le, Bool, ◌&&◌, List, [], ◌∷◌, length, slice_index_or, Result}
use Rattle.std.specs.declared.option.Option.{Option}
use Rattle.std.specs.declared.option.Option.TheVariants.{None}
use Rattle.std.specs.Option.{option_map}
use Rattle.std.specs.List.{find, list_all, count_by, zip}
use Rattle.mesh_model.specs.Complex.{Complex, verts_of}
use Rattle.mesh_model.specs.Elements.{no_elements, is_among}
use Rattle.mesh_model.specs.Incidence.{edge_joining, sides}
use Rattle.mesh_model.specs.Making.{edges_along}
use Rattle.mesh_model.specs.Kernel.{with_vert_like, with_edge_like, with_face_like}
use Rattle.mesh_model.specs.Closure.{new_between, verts_below}
use Rattle.mesh_model.specs.Lookups.{least_face, next_vert, next_edge}
use Rattle.mesh_model.specs.Refusals.{first_of, unless, refused_at, unless_too_many}
use Rattle.mesh_model.specs.Valid.{is_on_grid}
use Rattle.mesh_model.specs.declared.limits.TheConstants.{MIN_SIDES, MAX_SIDES}
use Rattle.mesh_model.specs.declared.names.VertName.{VertName}
use Rattle.mesh_model.specs.declared.names.Elem.TheVariants.{Vert, Edge, Face}
use Rattle.mesh_model.specs.declared.records.Point.{Point}
use Rattle.mesh_model.specs.declared.records.FaceRec.{FaceRec}
use Rattle.mesh_model.specs.declared.refusal.Refusal.{Refusal}
use Rattle.mesh_model.specs.declared.refusal.Why.TheVariants.{BadValue, Repeated, Exists, TooShort, TooLong}
use Rattle.op_slots.specs.declared.slots.Slots.{Slots}
use Rattle.mesh_passes.specs.Row.{row, only}

-- ---- make_vert: at a point

-- why no vertex is made: the first condition that fails
abbrev pub make_vert_refusal : Point → Complex → Option Refusal
make_vert_refusal p c = first_of (unless (is_on_grid p) BadValue ∷ unless_too_many (with_vert_like c p None) ∷ [])

-- the new vertex, and the complex with it
abbrev pub make_vert_result : Point → Complex → Slots × Complex
make_vert_result p c = (only (record no_elements { verts = next_vert c ∷ [] }), with_vert_like c p None)

-- ---- make_edge: from the first of two vertices to the second

-- the vertex at a position of a list
abbrev pub vert_at : List VertName → ℕ → VertName
vert_at vs i = slice_index_or vs i (record { 0 = 0 })

-- the complex with the edge between the first two vertices of a list
abbrev pub with_edge_between : Complex → List VertName → Complex
with_edge_between c vs = with_edge_like c (vert_at vs 0) (vert_at vs 1) None

-- the least vertex that stands twice in a list
abbrev pub least_repeated : Complex → List VertName → Option VertName
least_repeated c vs =
    find (λ (v : VertName). nat_le 2 (count_by (λ (w : VertName). w.0 == v.0) vs)) (verts_below (length c.verts))

-- why no edge is made: the first condition that fails
abbrev pub make_edge_refusal : List VertName → Complex → Option Refusal
make_edge_refusal vs c = first_of (
    unless (length vs == 2) BadValue
    ∷ refused_at Repeated (option_map Vert (least_repeated c vs))
    ∷ refused_at Exists (option_map Edge (edge_joining c.edges (vert_at vs 0) (vert_at vs 1)))
    ∷ unless_too_many (with_edge_between c vs)
    ∷ [])

-- the new edge, and the complex with it
abbrev pub make_edge_result : List VertName → Complex → Slots × Complex
make_edge_result vs c = (only (record no_elements { edges = next_edge c ∷ [] }), with_edge_between c vs)

-- ---- make_face: on a polygon, with the edges that it lacks, in the order of the list

-- a face has these vertices, and no others
abbrev pub has_just : List VertName → FaceRec → Bool
has_just vs f = list_all (is_among (verts_of f.corners)) vs && list_all (is_among vs) (verts_of f.corners)

-- the complex with the face and its missing edges
abbrev pub with_face_on : Complex → List VertName → Complex
with_face_on c vs = let made = edges_along c (sides vs) in with_face_like made.0 (zip vs made.1) None

-- why no face is made: the first condition that fails
abbrev pub make_face_refusal : List VertName → Complex → Option Refusal
make_face_refusal vs c = first_of (
    unless (nat_le MIN_SIDES (length vs)) TooShort
    ∷ unless (nat_le (length vs) MAX_SIDES) TooLong
    ∷ refused_at Repeated (option_map Vert (least_repeated c vs))
    ∷ refused_at Exists (option_map Face (least_face (has_just vs) c))
    ∷ unless_too_many (with_face_on c vs)
    ∷ [])

-- the new face and the new edges, and the complex with them
abbrev pub make_face_result : List VertName → Complex → Slots × Complex
make_face_result vs c = (only (new_between c (with_face_on c vs)), with_face_on c vs)

-- ---- rows

abbrev pub make_vert_row : Point → Complex → Result (Slots × Complex) Refusal
make_vert_row p c = row (make_vert_refusal p c) (make_vert_result p c)

abbrev pub make_edge_row : List VertName → Complex → Result (Slots × Complex) Refusal
make_edge_row vs c = row (make_edge_refusal vs c) (make_edge_result vs c)

abbrev pub make_face_row : List VertName → Complex → Result (Slots × Complex) Refusal
make_face_row vs c = row (make_face_refusal vs c) (make_face_result vs c)

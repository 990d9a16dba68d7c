-- The complex with one element more: the next name of the kind gets the record.
use Rattle.std.specs.Prelude.{ℤ, List, [], ◌∷◌, ◌++◌, length, map}
use Rattle.std.specs.declared.option.Option.{Option}
use Rattle.std.specs.declared.option.Option.TheVariants.{None, Some}
use Rattle.std.specs.List.{zip}
use Rattle.cust_data.specs.Layers.{zeros}
use Rattle.mesh_model.specs.Complex.{Complex, width}
use Rattle.mesh_model.specs.Incidence.{edge_joining, sides}
use Rattle.mesh_model.specs.Values.{corner_vals, face_vals}
use Rattle.mesh_model.specs.declared.names.Kind.TheVariants.{Verts, Edges}
use Rattle.mesh_model.specs.declared.names.VertName.{VertName}
use Rattle.mesh_model.specs.declared.names.EdgeName.{EdgeName}
use Rattle.mesh_model.specs.declared.records.Point.{Point}
use Rattle.mesh_model.specs.declared.records.VertRec.{VertRec}
use Rattle.mesh_model.specs.declared.records.EdgeRec.{EdgeRec}
use Rattle.mesh_model.specs.declared.records.CornerRec.{CornerRec}
use Rattle.mesh_model.specs.declared.records.FaceRec.{FaceRec}
use Rattle.mesh_model.specs.declared.draft.DraftCorner.{DraftCorner}

-- a vertex more
abbrev pub with_vert : Complex → VertRec → Complex
with_vert c r = record c { verts = c.verts ++ Some r ∷ [] }

-- an edge more
abbrev pub with_edge : Complex → EdgeRec → Complex
with_edge c r = record c { edges = c.edges ++ Some r ∷ [] }

-- a face more
abbrev pub with_face : Complex → FaceRec → Complex
with_face c r = record c { faces = c.faces ++ Some r ∷ [] }

-- a vertex at a point, whose values are 0
abbrev pub vert_at_point : Complex → Point → VertRec
vert_at_point c p = record { point = p; vals = zeros (width c Verts) }

-- an edge between two vertices, whose values are 0
abbrev pub edge_from_to : Complex → VertName → VertName → EdgeRec
edge_from_to c v w = record { a = v; b = w; vals = zeros (width c Edges) }

-- the complex with the edge that was found, or else with a new one between two vertices; and its name
abbrev pub with_found : Complex → VertName → VertName → Option EdgeName → Complex × EdgeName
with_found c v w None = (with_edge c (edge_from_to c v w), record { 0 = length c.edges })
with_found c v w (Some e) = (c, e)

-- the least edge that joins two vertices, made with these ends if there is none: the complex then, and its name
abbrev pub edge_between : Complex → VertName → VertName → Complex × EdgeName
edge_between c v w = with_found c v w (edge_joining c.edges v w)

-- an edge for each side, the missing ones made in order: the complex then, and the edges' names
abbrev pub edges_along : Complex → List (VertName × VertName) → Complex × List EdgeName
edges_along c [] = (c, [])
edges_along c (s ∷ ss) =
    let found = edge_between c s.0 s.1 in
    let rest = edges_along found.0 ss in
    (rest.0, found.1 ∷ rest.1)

-- a corner at a vertex, with its values, and its edge
abbrev pub corner_of : (VertName × List ℤ) × EdgeName → CornerRec
corner_of k = record { vert = k.0.0; edge = k.1; vals = k.0.1 }

-- the face on a polygon more, and the edges that it lacks: a corner for each vertex, with its values, and the face's
-- values
abbrev pub with_polygon : Complex → List (VertName × List ℤ) → List ℤ → Complex
with_polygon c corners vals =
    let made = edges_along c (sides (map (λ (k : VertName × List ℤ). k.0) corners)) in
    with_face made.0 (record { corners = map corner_of (zip corners made.1); vals = vals })

-- corners as they are told: each with its values
abbrev pub corners_told : Complex → List DraftCorner → List (VertName × List ℤ)
corners_told c corners = map (λ (k : DraftCorner). (k.vert, corner_vals c k.uv)) corners

-- the face that is told more, and the edges that it lacks
abbrev pub with_face_told : Complex → List DraftCorner → ℤ → ℤ → Complex
with_face_told c corners material smooth = with_polygon c (corners_told c corners) (face_vals c material smooth)

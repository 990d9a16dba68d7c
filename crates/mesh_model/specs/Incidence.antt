-- Which elements meet: filters over all records.
use Rattle.std.specs.Prelude.{ℕ, ◌==◌, Bool, not, ◌&&◌, ◌||◌, List, ◌++◌, map, take, drop}
use Rattle.std.specs.declared.option.Option.{Option}
use Rattle.std.specs.Option.{option_map}
use Rattle.std.specs.List.{position, list_any, filter, flat_map, enumerate_from, zip}
use Rattle.mesh_model.specs.Table.{passes}
use Rattle.mesh_model.specs.Complex.{Complex, corners_of}
use Rattle.mesh_model.specs.declared.names.VertName.{VertName}
use Rattle.mesh_model.specs.declared.names.EdgeName.{EdgeName}
use Rattle.mesh_model.specs.declared.names.FaceName.{FaceName}
use Rattle.mesh_model.specs.declared.records.EdgeRec.{EdgeRec}
use Rattle.mesh_model.specs.declared.records.CornerRec.{CornerRec}
use Rattle.mesh_model.specs.declared.records.FaceRec.{FaceRec}

-- an edge has this end
abbrev pub has_end : VertName → EdgeRec → Bool
has_end v e = (e.a.0 == v.0) || (e.b.0 == v.0)

-- an edge has these two ends, in either order
abbrev pub joins : VertName → VertName → EdgeRec → Bool
joins v w e = ((e.a.0 == v.0) && (e.b.0 == w.0)) || ((e.a.0 == w.0) && (e.b.0 == v.0))

-- a corner runs along this edge
abbrev pub is_along : EdgeName → CornerRec → Bool
is_along e k = k.edge.0 == e.0

-- a corner is at this vertex
abbrev pub is_at : VertName → CornerRec → Bool
is_at v k = k.vert.0 == v.0

-- a face has a corner along this edge
abbrev pub uses_edge : EdgeName → FaceRec → Bool
uses_edge e f = list_any (is_along e) f.corners

-- a face has a corner at this vertex
abbrev pub uses_vert : VertName → FaceRec → Bool
uses_vert v f = list_any (is_at v) f.corners

-- the edges with an end at a vertex, by rising name
abbrev pub edges_at : Complex → VertName → List EdgeName
edges_at c v = map (λ e. record { 0 = e.0 }) (filter (λ e. passes (has_end v) e.1) (enumerate_from 0 c.edges))

-- the corners of a face that pass a test, each as the face's name and its position
abbrev pub corners_in : (CornerRec → Bool) → ℕ × Option FaceRec → List (FaceName × ℕ)
corners_in test f = map (λ k. (record { 0 = f.0 }, k.0)) (filter (λ k. test k.1) (enumerate_from 0 (corners_of f.1)))

-- the corners that pass a test, by rising name of their faces and then in order
abbrev pub corners_where : (CornerRec → Bool) → Complex → List (FaceName × ℕ)
corners_where test c = flat_map (corners_in test) (enumerate_from 0 c.faces)

-- the corners along an edge
abbrev pub corners_at_edge : Complex → EdgeName → List (FaceName × ℕ)
corners_at_edge c e = corners_where (is_along e) c

-- the corners at a vertex
abbrev pub corners_at_vert : Complex → VertName → List (FaceName × ℕ)
corners_at_vert c v = corners_where (is_at v) c

-- no corner runs along this edge
abbrev pub is_loose : Complex → EdgeName → Bool
is_loose c e = not (list_any (passes (uses_edge e)) c.faces)

-- no edge has this end
abbrev pub is_bare : Complex → VertName → Bool
is_bare c v = not (list_any (passes (has_end v)) c.edges)

-- the least edge that joins two vertices, if there is one
abbrev pub edge_joining : List (Option EdgeRec) → VertName → VertName → Option EdgeName
edge_joining edges v w = option_map (λ n. record { 0 = n }) (position (passes (joins v w)) edges)

-- each vertex round a polygon with the next, the last one with the first
abbrev pub sides : List VertName → List (VertName × VertName)
sides vs = zip vs (drop 1 vs ++ take 1 vs)

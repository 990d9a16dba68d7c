-- Names of a complex, by rising name: filters over its tables.
use Rattle.std.specs.Prelude.{ℕ, Bool, ◌&&◌, is_some, List, map}
use Rattle.std.specs.declared.option.Option.{Option}
use Rattle.std.specs.List.{list_any, filter, enumerate_from}
use Rattle.mesh_model.specs.Table.{at, passes}
use Rattle.mesh_model.specs.Complex.{Complex, corners_of}
use Rattle.mesh_model.specs.Incidence.{has_end, is_at, is_along, corners_where}
use Rattle.mesh_model.specs.declared.names.VertName.{VertName}
use Rattle.mesh_model.specs.declared.names.EdgeName.{EdgeName}
use Rattle.mesh_model.specs.declared.names.FaceName.{FaceName}
use Rattle.mesh_model.specs.declared.records.CornerRec.{CornerRec}

-- the names at which something stands
abbrev pub names_in : {X : Type 0} → List (Option X) → List ℕ
names_in table = map (λ e. e.0) (filter (λ e. is_some e.1) (enumerate_from 0 table))

-- the vertices
abbrev pub verts_in_order : Complex → List VertName
verts_in_order c = map (λ n. record { 0 = n }) (names_in c.verts)

-- the edges
abbrev pub edges_in_order : Complex → List EdgeName
edges_in_order c = map (λ n. record { 0 = n }) (names_in c.edges)

-- the faces
abbrev pub faces_in_order : Complex → List FaceName
faces_in_order c = map (λ n. record { 0 = n }) (names_in c.faces)

-- the faces with a corner that passes a test
abbrev pub faces_where : (CornerRec → Bool) → Complex → List FaceName
faces_where test c =
    map (λ f. record { 0 = f.0 }) (filter (λ f. list_any test (corners_of f.1)) (enumerate_from 0 c.faces))

-- the faces with a corner along an edge
abbrev pub faces_at_edge : Complex → EdgeName → List FaceName
faces_at_edge c e = faces_where (is_along e) c

-- a corner is at a vertex, and its edge ends there
abbrev pub has_corner_at : Complex → VertName → CornerRec → Bool
has_corner_at c v k = is_at v k && passes (has_end v) (at c.edges k.edge.0)

-- the corners at a vertex whose edges end there
abbrev pub corners_of_vert : Complex → VertName → List (FaceName × ℕ)
corners_of_vert c v = corners_where (has_corner_at c v) c

-- the faces with such a corner
abbrev pub faces_of_vert : Complex → VertName → List FaceName
faces_of_vert c v = faces_where (has_corner_at c v) c

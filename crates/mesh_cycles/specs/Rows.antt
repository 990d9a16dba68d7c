-- A small store, worked out: two edges at one vertex, and three faces, of which one has two corners on one edge.
use Rattle.std.specs.Prelude.{◌≡◌, ℕ, true, false, List, [], ◌∷◌, map}
use Rattle.std.specs.declared.option.Option.{Option}
use Rattle.std.specs.declared.option.Option.TheVariants.{None, Some}
use Rattle.raw_pool.specs.declared.pool.Slot.{Slot}
use Rattle.mesh_store.specs.Stored.{Stored, no_values}
use Rattle.mesh_store.specs.Rows.{slot, dart}
use Rattle.mesh_store.specs.declared.cells.Dart.{Dart}
use Rattle.mesh_store.specs.declared.cells.VertCell.{VertCell}
use Rattle.mesh_store.specs.declared.cells.EdgeCell.{EdgeCell}
use Rattle.mesh_store.specs.declared.cells.LoopCell.{LoopCell}
use Rattle.mesh_store.specs.declared.cells.FaceCell.{FaceCell}
use Rattle.mesh_store.specs.declared.cells.Radial.{Radial}
use Rattle.mesh_cycles.specs.Owners.{dart_end, edge_of, face_of}
use Rattle.mesh_cycles.specs.Lists.{same_radial, without, with_behind}
use Rattle.mesh_cycles.specs.Cycles.{IsCounted}
use Rattle.mesh_cycles.specs.Found.{edges_around, loops_along, loops_in, loops_around, faces_along, faces_around, by_name, joins}

-- slots
abbrev pub slots : List ℕ → List Slot
slots ns = map slot ns

-- a vertex with its first edge
abbrev pub vert : ℕ → ℕ → Option VertCell
vert name edge = Some (record { number = name; point = []; first_edge = Some (slot edge) })

-- an edge with its first loop, and for each end the edge on both sides of it in the disk cycle of that end, and that
-- edge's side
abbrev pub edge : ℕ → ℕ → ℕ → ℕ → Dart → Dart → Option EdgeCell
edge name a b first around_a around_b = Some (record {
  number = name;
  ends = slots (a ∷ b ∷ []);
  first_loop = Some (slot first);
  disk_a = record { next = around_a; prev = around_a };
  disk_b = record { next = around_b; prev = around_b };
})

-- a loop with the loops after and before it around its edge, and the loop on both sides of it in its face
abbrev pub corner : ℕ → ℕ → ℕ → ℕ → ℕ → ℕ → Option LoopCell
corner v e f after before beside = Some (record {
  vert = slot v;
  edge = slot e;
  face = slot f;
  radial_next = record { 0 = slot after };
  radial_prev = record { 0 = slot before };
  round_next = record { 0 = slot beside };
  round_prev = record { 0 = slot beside };
})

-- a face with its first loop
abbrev pub face : ℕ → ℕ → ℕ → Option FaceCell
face name first len = Some (record { number = name; first_loop = Some (slot first); len = len })

-- the edge 0 from vertex 0 to 1 has loops 0 and 1 of face 0 and loop 2 of face 1; the edge 1 from vertex 0 to 2 has
-- loop 3 of face 2
abbrev pub small : Stored
small = record {
  verts = record {
    cells = vert 4 0 ∷ vert 2 0 ∷ vert 0 1 ∷ [];
    names = Some (slot 2) ∷ None ∷ Some (slot 1) ∷ None ∷ Some (slot 0) ∷ [];
  };
  edges = record {
    cells = edge 1 0 1 0 (dart 1 0) (dart 0 1) ∷ edge 0 0 2 3 (dart 0 0) (dart 1 1) ∷ None ∷ [];
    names = Some (slot 1) ∷ Some (slot 0) ∷ [];
  };
  loops = corner 0 0 0 1 2 1 ∷ corner 1 0 0 2 0 0 ∷ corner 1 0 1 0 1 2 ∷ corner 0 1 2 3 3 3 ∷ None ∷ [];
  faces = record {
    cells = face 0 0 2 ∷ face 1 2 1 ∷ face 2 3 1 ∷ [];
    names = Some (slot 0) ∷ Some (slot 1) ∷ Some (slot 2) ∷ [];
  };
  values = no_values;
}

-- ---- what it stands for

-- an edge ends where its darts do, a loop names its edge and its face, and what isn't there has none; lengths are right
abbrev pub SmallOwners : Type 0
SmallOwners =
    (dart_end small (dart 1 1) ≡ Some 2) × (dart_end small (dart 2 0) ≡ None) × (edge_of small (slot 3) ≡ Some 1)
    × (face_of small (slot 3) ≡ Some 2) × (face_of small (slot 4) ≡ None)
    × IsCounted small 0 × IsCounted small 2

-- two edges are around vertex 0, and one around each other vertex
abbrev pub SmallEdges : Type 0
SmallEdges = map (edges_around small) (0 ∷ 1 ∷ 2 ∷ 3 ∷ [])
    ≡ slots (0 ∷ 1 ∷ []) ∷ slots (0 ∷ []) ∷ slots (1 ∷ []) ∷ [] ∷ []

-- three loops are along edge 0, one along edge 1, and none along an edge that is not there
abbrev pub SmallLoops : Type 0
SmallLoops = map (loops_along small) (0 ∷ 1 ∷ 2 ∷ []) ≡ slots (0 ∷ 1 ∷ 2 ∷ []) ∷ slots (3 ∷ []) ∷ [] ∷ []

-- two loops are in face 0, and one in each other face
abbrev pub SmallCorners : Type 0
SmallCorners = map (loops_in small) (0 ∷ 1 ∷ 2 ∷ []) ≡ slots (0 ∷ 1 ∷ []) ∷ slots (2 ∷ []) ∷ slots (3 ∷ []) ∷ []

-- each loop stands at one vertex
abbrev pub SmallStanding : Type 0
SmallStanding = map (loops_around small) (0 ∷ 1 ∷ 2 ∷ []) ≡ slots (0 ∷ 3 ∷ []) ∷ slots (1 ∷ 2 ∷ []) ∷ [] ∷ []

-- face 0 comes once along edge 0
abbrev pub SmallFaces : Type 0
SmallFaces = map (faces_along small) (0 ∷ 1 ∷ []) ≡ slots (0 ∷ 1 ∷ []) ∷ slots (2 ∷ []) ∷ []

-- the faces around each vertex
abbrev pub SmallAround : Type 0
SmallAround = map (faces_around small) (0 ∷ 1 ∷ 2 ∷ []) ≡ slots (0 ∷ 2 ∷ []) ∷ slots (0 ∷ 1 ∷ []) ∷ [] ∷ []

-- the small store before the loops of face 0 are in its own cycle
abbrev pub half_built : Stored
half_built = record small {
  faces = record {
    cells = Some (record { number = 0; first_loop = None; len = 0 }) ∷ face 1 2 1 ∷ face 2 3 1 ∷ [];
    names = Some (slot 0) ∷ Some (slot 1) ∷ Some (slot 2) ∷ [];
  };
}

-- face 0 comes there all the same
abbrev pub HalfBuiltFaces : Type 0
HalfBuiltFaces = map (faces_along half_built) (0 ∷ 1 ∷ []) ≡ slots (0 ∷ 1 ∷ []) ∷ slots (2 ∷ []) ∷ []

-- and around its vertices
abbrev pub HalfBuiltAround : Type 0
HalfBuiltAround = map (faces_around half_built) (0 ∷ 1 ∷ 2 ∷ []) ≡ slots (0 ∷ 2 ∷ []) ∷ slots (0 ∷ 1 ∷ []) ∷ [] ∷ []

-- vertex 2 has the least name, and edge 1 the lesser
abbrev pub SmallNames : Type 0
SmallNames = (by_name small.verts.names ≡ slots (2 ∷ 1 ∷ 0 ∷ [])) × (by_name small.edges.names ≡ slots (1 ∷ 0 ∷ []))

-- edge 0 joins vertices 0 and 1 both ways, and no others
abbrev pub SmallJoins : Type 0
SmallJoins =
    (joins small 0 1 (slot 0) ≡ true) × (joins small 1 0 (slot 0) ≡ true) × (joins small 0 2 (slot 0) ≡ false)
    × (joins small 1 1 (slot 0) ≡ false)
    × (joins small 0 1 (slot 2) ≡ false)

-- ---- lists

-- loops by their places around edges
abbrev radials : List ℕ → List Radial
radials ns = map (λ n. record { 0 = slot n }) ns

-- a member less, the first too
abbrev pub OneLess : Type 0
OneLess = map (λ n. without same_radial (record { 0 = slot n }) (radials (0 ∷ 1 ∷ 2 ∷ []))) (0 ∷ 1 ∷ 3 ∷ [])
    ≡ radials (1 ∷ 2 ∷ []) ∷ radials (0 ∷ 2 ∷ []) ∷ radials (0 ∷ 1 ∷ 2 ∷ []) ∷ []

-- a member more behind each of two
abbrev pub OneMore : Type 0
OneMore = map (λ n. with_behind same_radial (record { 0 = slot n }) (record { 0 = slot 7 }) (radials (0 ∷ 1 ∷ [])))
    (0 ∷ 1 ∷ []) ≡ radials (0 ∷ 7 ∷ 1 ∷ []) ∷ radials (0 ∷ 1 ∷ 7 ∷ []) ∷ []

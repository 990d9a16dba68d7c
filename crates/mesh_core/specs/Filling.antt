-- A mesh on its way to a complex: what stands so far, and the places for what is to come.
use Rattle.std.specs.Prelude.{◌≡◌, ◌≤◌, ◌+◌, ◌-◌, ℕ, drop}
use Rattle.raw_pool.specs.Slots.{spare_count}
use Rattle.mesh_model.specs.Table.{live}
use Rattle.mesh_model.specs.Complex.{Complex, corner_sum}
use Rattle.mesh_records.specs.Loading.{verts_to, edges_to, faces_to, corners_to}
use Rattle.mesh_records.specs.Places.{CanBecome}
use Rattle.mesh_core.specs.Seen.{Seen, now}

-- this stands so far, the store can take the whole complex, and so many places are vacant
pub record IsFilling (m : Seen) (whole so_far : Complex) (v e k f : ℕ) : Type 0 where
  pub now : now m ≡ so_far
  pub becomes : CanBecome m.stored m.lists whole
  pub verts : v ≤ spare_count m.stored.verts.cells
  pub edges : e ≤ spare_count m.stored.edges.cells
  pub corners : k ≤ spare_count m.stored.loops
  pub faces : f ≤ spare_count m.stored.faces.cells

-- the vertices up to a name stand
abbrev pub HasVertsTo : Seen → Complex → ℕ → Type 0
HasVertsTo m c v =
    IsFilling m c (verts_to c v) (live (drop v c.verts)) (live c.edges) (corner_sum c.faces) (live c.faces)

-- all vertices, and the edges up to a name
abbrev pub HasEdgesTo : Seen → Complex → ℕ → Type 0
HasEdgesTo m c e = IsFilling m c (edges_to c e) 0 (live (drop e c.edges)) (corner_sum c.faces) (live c.faces)

-- all vertices and edges, and the faces up to a name
abbrev pub HasFacesTo : Seen → Complex → ℕ → Type 0
HasFacesTo m c f = IsFilling m c (faces_to c f) 0 0 (corner_sum (drop f c.faces)) (live (drop f c.faces))

-- besides, the first so many corners of the face of the next name
abbrev pub HasCornersTo : Seen → Complex → ℕ → ℕ → Type 0
HasCornersTo m c f i =
    IsFilling m c (corners_to c f i) 0 0 (corner_sum (drop f c.faces) - i) (live (drop (f + 1) c.faces))

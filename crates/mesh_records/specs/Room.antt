-- How much can be added and noted without memory, and what a call uses of it.
use Rattle.std.specs.Prelude.{◌≤◌, ◌+◌, ◌-◌, ℕ, min, length}
use Rattle.raw_pool.specs.Slots.{spare_count}
use Rattle.mesh_model.specs.Table.{kept, live}
use Rattle.mesh_model.specs.Complex.{Complex, corner_sum}
use Rattle.mesh_model.specs.Incidence.{has_end, uses_edge}
use Rattle.mesh_model.specs.Kernel.{uses_edge_at}
use Rattle.mesh_model.specs.declared.names.VertName.{VertName}
use Rattle.mesh_model.specs.declared.names.EdgeName.{EdgeName}
use Rattle.mesh_model.specs.declared.records.Counters.{Counters}
use Rattle.mesh_store.specs.Stored.{Stored}

-- so many elements of each kind
pub record Amounts : Type 0 where
  pub verts : ℕ
  pub edges : ℕ
  pub corners : ℕ
  pub faces : ℕ

-- how many elements can be added: as many as there are vacant places, and of those with names as many as the directory
-- reaches from the next name on
abbrev pub room_in : Stored → Counters → Amounts
room_in st n = record {
  verts = min (spare_count st.verts.cells) (length st.verts.names - n.verts);
  edges = min (spare_count st.edges.cells) (length st.edges.names - n.edges);
  corners = spare_count st.loops;
  faces = min (spare_count st.faces.cells) (length st.faces.names - n.faces);
}

-- what is there is at least what is asked for
pub record Covers (there asked : Amounts) : Type 0 where
  pub verts : asked.verts ≤ there.verts
  pub edges : asked.edges ≤ there.edges
  pub corners : asked.corners ≤ there.corners
  pub faces : asked.faces ≤ there.faces

-- of what was there a call uses no more than this
pub record UsesAtMost (used old new : Amounts) : Type 0 where
  pub verts : old.verts ≤ new.verts + used.verts
  pub edges : old.edges ≤ new.edges + used.edges
  pub corners : old.corners ≤ new.corners + used.corners
  pub faces : old.faces ≤ new.faces + used.faces

-- nothing
abbrev pub none_of_all : Amounts
none_of_all = record { verts = 0; edges = 0; corners = 0; faces = 0 }

-- so many vertices
abbrev pub of_verts : ℕ → Amounts
of_verts k = record none_of_all { verts = k }

-- so many edges
abbrev pub of_edges : ℕ → Amounts
of_edges k = record none_of_all { edges = k }

-- a face with so many corners
abbrev pub of_face : ℕ → Amounts
of_face k = record none_of_all { corners = k; faces = 1 }

-- what goes with an edge: itself, and the faces along it with their corners
abbrev pub gone_with_edge : Complex → EdgeName → Amounts
gone_with_edge c e =
    let along = kept (uses_edge e) c.faces in
    record { verts = 0; edges = 1; corners = corner_sum along; faces = live along }

-- what goes with a vertex: itself, its edges, and the faces along these with their corners
abbrev pub gone_with_vert : Complex → VertName → Amounts
gone_with_vert c v =
    let along = kept (uses_edge_at c v) c.faces in
    record { verts = 1; edges = live (kept (has_end v) c.edges); corners = corner_sum along; faces = live along }

-- What is left of the loops around a vertex.
use Rattle.std.specs.Prelude.{◌≡◌, ◌↔◌, ◌++◌, ℕ, true, List}
use Rattle.std.specs.List.{filter, flat_map}
use Rattle.raw_pool.specs.declared.pool.Slot.{Slot}
use Rattle.link_ring.specs.Members.{HasMember}
use Rattle.mesh_store.specs.Stored.{Stored}
use Rattle.mesh_cycles.specs.declared.along_edge.LoopsOfEdge.{LoopsOfEdge}
use Rattle.mesh_cycles.specs.declared.around_vert.LoopsOfVert.{LoopsOfVert}
use Rattle.mesh_cycles.specs.Cycles.{AreCycles}
use Rattle.mesh_cycles.specs.Found.{AllLive, stands_at, is_corner_at, loops_along, loops_around}
use Rattle.mesh_cycles.specs.Left.{edges_around_left, CanGiveEdgesAround, loops_along_left, CanGiveLoopsAlong}

-- of the loops along an edge that are still to come, those that stand at a vertex
abbrev pub standing_left : Stored → ℕ → LoopsOfEdge → List Slot
standing_left st v s = filter (stands_at st v) (loops_along_left s)

-- the loops at a vertex that are still to come: of one edge, and of the edges after it
abbrev pub loops_around_left : LoopsOfVert → List Slot
loops_around_left s =
    standing_left s.st.now s.vert.0 s.loops
    ++ flat_map (λ (e : Slot). filter (stands_at s.st.now s.vert.0) (loops_along s.st.now e.0))
    (edges_around_left s.edges)

-- the next loop may be asked for
pub record CanGiveLoopsAround (s : LoopsOfVert) : Type 0 where
  pub cycles : AreCycles s.st.now
  pub edges : CanGiveEdgesAround s.edges
  pub live_edges : AllLive s.st.now.edges.cells (edges_around_left s.edges)
  pub loops : CanGiveLoopsAlong s.loops
  pub live_loops : AllLive s.st.now.loops (loops_along_left s.loops)

-- the loops around a vertex are those that stand at it and whose edge ends at it
abbrev pub AreCornersAt : Stored → ℕ → Type 0
AreCornersAt st v = (l : Slot) → HasMember (loops_around st v) l ↔ (is_corner_at st v l ≡ true)

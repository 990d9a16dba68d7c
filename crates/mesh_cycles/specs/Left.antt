-- What the iterators have left to give, and when they may be asked for it.
use Rattle.std.specs.Prelude.{ℕ, Bool, List, [], map, drop, IfSome}
use Rattle.std.specs.Option.{option_map_or}
use Rattle.raw_pool.specs.declared.pool.Slot.{Slot}
use Rattle.link_ring.specs.Ring.{LinkMap}
use Rattle.link_ring.specs.Walk.{items_left, CanWalk}
use Rattle.mesh_store.specs.Stored.{dart_links, radial_links, round_links}
use Rattle.mesh_store.specs.declared.cells.Dart.{Dart}
use Rattle.mesh_store.specs.declared.cells.Radial.{Radial}
use Rattle.mesh_store.specs.declared.cells.Round.{Round}
use Rattle.mesh_cycles.specs.Lists.{same_dart, same_radial, same_round}
use Rattle.mesh_cycles.specs.Cycles.{dart_limit, loop_limit}
use Rattle.mesh_cycles.specs.declared.cycle_iter.CycleIter.{CycleIter}
use Rattle.mesh_cycles.specs.declared.along_edge.LoopsOfEdge.{LoopsOfEdge}
use Rattle.mesh_cycles.specs.declared.around_vert.EdgesOfVert.{EdgesOfVert}
use Rattle.mesh_cycles.specs.declared.in_face.CornersOfFace.{CornersOfFace}
use Rattle.mesh_cycles.specs.declared.rising.EdgesRising.{EdgesRising}
use Rattle.mesh_cycles.specs.declared.rising.FacesRising.{FacesRising}
use Rattle.mesh_cycles.specs.declared.rising.VertsRising.{VertsRising}
use Rattle.mesh_cycles.specs.Found.{by_name}

-- the members that a walk around a cycle still gives
abbrev pub members_left : {K L : Type 0} → (K → K → Bool) → (L → LinkMap K) → (L → ℕ) → CycleIter K L → List K
members_left eq links limit s = option_map_or (items_left eq links limit) s.walk []

-- it may be asked for the next
abbrev pub CanGoOn : {K L : Type 0} → (K → K → Bool) → (L → LinkMap K) → (L → ℕ) → CycleIter K L → Type 0
CanGoOn eq links limit s = IfSome s.walk (CanWalk eq links limit)

-- the edges that are still to come
abbrev pub edges_around_left : EdgesOfVert → List Slot
edges_around_left s = map (λ (d : Dart). d.edge) (members_left same_dart dart_links dart_limit s.darts)

-- the next edge may be asked for
abbrev pub CanGiveEdgesAround : EdgesOfVert → Type 0
CanGiveEdgesAround s = CanGoOn same_dart dart_links dart_limit s.darts

-- the loops along an edge that are still to come
abbrev pub loops_along_left : LoopsOfEdge → List Slot
loops_along_left s = map (λ (l : Radial). l.0) (members_left same_radial radial_links loop_limit s.loops)

-- the next loop may be asked for
abbrev pub CanGiveLoopsAlong : LoopsOfEdge → Type 0
CanGiveLoopsAlong s = CanGoOn same_radial radial_links loop_limit s.loops

-- the loops of a face that are still to come
abbrev pub loops_in_left : CornersOfFace → List Slot
loops_in_left s = map (λ (l : Round). l.0) (members_left same_round round_links loop_limit s.corners)

-- the next loop may be asked for
abbrev pub CanGiveLoopsIn : CornersOfFace → Type 0
CanGiveLoopsIn s = CanGoOn same_round round_links loop_limit s.corners

-- ---- by rising name

-- the vertices that are still to come
abbrev pub verts_rising_left : VertsRising → List Slot
verts_rising_left s = by_name (drop s.from s.st.now.verts.names)

-- the edges that are still to come
abbrev pub edges_rising_left : EdgesRising → List Slot
edges_rising_left s = by_name (drop s.from s.st.now.edges.names)

-- the faces that are still to come
abbrev pub faces_rising_left : FacesRising → List Slot
faces_rising_left s = by_name (drop s.from s.st.now.faces.names)

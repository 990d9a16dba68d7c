-- What is left of the faces along an edge, and of those around a vertex.
use Rattle.std.specs.Prelude.{◌≡◌, ◌↔◌, ℕ, List}
use Rattle.raw_pool.specs.declared.pool.Slot.{Slot}
use Rattle.raw_pool.specs.Slots.{IsLive}
use Rattle.link_ring.specs.Members.{HasMember}
use Rattle.mesh_store.specs.Stored.{Stored}
use Rattle.mesh_cycles.specs.declared.along_edge.FacesOfEdge.{FacesOfEdge}
use Rattle.mesh_cycles.specs.declared.around_vert.FacesOfVert.{FacesOfVert}
use Rattle.mesh_cycles.specs.Cycles.{AreCycles}
use Rattle.mesh_cycles.specs.Found.{goes_along, is_corner_at, face_at, faces_led, loops_along, loops_around, faces_along, faces_around}
use Rattle.mesh_cycles.specs.Left.{loops_along_left, CanGiveLoopsAlong}
use Rattle.mesh_cycles.specs.Around.{loops_around_left, CanGiveLoopsAround}

-- each slot of the second list is in the first
abbrev pub AreAmong : List Slot → List Slot → Type 0
AreAmong all ls = (l : Slot) → HasMember ls l → HasMember all l

-- the faces along an edge that are still to come
abbrev pub faces_along_left : FacesOfEdge → List Slot
faces_along_left s = faces_led s.st.now (goes_along s.st.now s.edge.0) (loops_along s.st.now s.edge.0)
    (loops_along_left s.loops)

-- the next face may be asked for
pub record CanGiveFacesAlong (s : FacesOfEdge) : Type 0 where
  pub cycles : AreCycles s.st.now
  pub edge : IsLive s.st.now.edges.cells s.edge.0
  pub loops : CanGiveLoopsAlong s.loops
  pub among : AreAmong (loops_along s.st.now s.edge.0) (loops_along_left s.loops)

-- the faces around a vertex that are still to come
abbrev pub faces_around_left : FacesOfVert → List Slot
faces_around_left s = faces_led s.st.now (is_corner_at s.st.now s.vert.0) (loops_around s.st.now s.vert.0)
    (loops_around_left s.loops)

-- the next face may be asked for
pub record CanGiveFacesAround (s : FacesOfVert) : Type 0 where
  pub cycles : AreCycles s.st.now
  pub vert : IsLive s.st.now.verts.cells s.vert.0
  pub loops : CanGiveLoopsAround s.loops
  pub among : AreAmong (loops_around s.st.now s.vert.0) (loops_around_left s.loops)

-- the second list has exactly the live faces of the loops of the first
abbrev pub AreFacesOf : Stored → List Slot → List Slot → Type 0
AreFacesOf st ls fs = (f : Slot) → HasMember fs f
    ↔ (IsLive st.faces.cells f.0 × ((l : Slot) × HasMember ls l × (face_at st l ≡ f)))

-- the faces along an edge are the live faces of the loops along it
abbrev pub AreFacesAlong : Stored → ℕ → Type 0
AreFacesAlong st e = AreFacesOf st (loops_along st e) (faces_along st e)

-- the faces around a vertex are the live faces of the loops around it
abbrev pub AreFacesAround : Stored → ℕ → Type 0
AreFacesAround st v = AreFacesOf st (loops_around st v) (faces_around st v)

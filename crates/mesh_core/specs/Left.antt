-- What the iterators have left to give, and when they may be asked for it.
use Rattle.std.specs.Prelude.{ℕ, ◌-◌, List, length, map}
use Rattle.std.specs.List.{range_with_len}
use Rattle.raw_pool.specs.declared.pool.Slot.{Slot}
use Rattle.mesh_cycles.specs.Found.{AllLive}
use Rattle.mesh_cycles.specs.Left.{edges_around_left, CanGiveEdgesAround, loops_along_left, CanGiveLoopsAlong}
use Rattle.mesh_cycles.specs.Left.{verts_rising_left, edges_rising_left, faces_rising_left}
use Rattle.mesh_cycles.specs.Faces.{faces_along_left, CanGiveFacesAlong, faces_around_left, CanGiveFacesAround}
use Rattle.mesh_cycles.specs.Around.{loops_around_left, CanGiveLoopsAround}
use Rattle.mesh_model.specs.Table.{at as record_at, IsThere}
use Rattle.mesh_model.specs.Complex.{corners_of}
use Rattle.mesh_model.specs.declared.names.VertName.{VertName}
use Rattle.mesh_model.specs.declared.names.EdgeName.{EdgeName}
use Rattle.mesh_model.specs.declared.names.FaceName.{FaceName}
use Rattle.mesh_model.specs.declared.records.Counters.{Counters}
use Rattle.mesh_core.specs.declared.around.EdgesAt.{EdgesAt}
use Rattle.mesh_core.specs.declared.around.FacesAtEdge.{FacesAtEdge}
use Rattle.mesh_core.specs.declared.around.FacesAtVert.{FacesAtVert}
use Rattle.mesh_core.specs.declared.rising.VertsByName.{VertsByName}
use Rattle.mesh_core.specs.declared.rising.EdgesByName.{EdgesByName}
use Rattle.mesh_core.specs.declared.rising.FacesByName.{FacesByName}
use Rattle.mesh_core.specs.declared.corners.CornersAtEdge.{CornersAtEdge}
use Rattle.mesh_core.specs.declared.corners.CornersAtVert.{CornersAtVert}
use Rattle.mesh_core.specs.declared.corners.CornersIn.{CornersIn}
use Rattle.mesh_records.specs.ReadOff.{vert_name, edge_name}
use Rattle.mesh_core.specs.Seen.{now}
use Rattle.mesh_records.specs.StandsFor.{face_name, place_of}
use Rattle.mesh_records.specs.Whole.{IsWhole}

-- the names of the edges that are still to come
abbrev pub edges_at_left : EdgesAt → List EdgeName
edges_at_left s = map (λ (e : Slot). edge_name s.st.now e.0) (edges_around_left s.edges)

-- the next one may be asked for
pub record CanGiveEdgesAt (s : EdgesAt) : Type 0 where
  pub edges : CanGiveEdgesAround s.edges
  pub live : AllLive s.st.now.edges.cells (edges_around_left s.edges)

-- the names of the faces along an edge that are still to come
abbrev pub faces_at_edge_left : FacesAtEdge → List FaceName
faces_at_edge_left s = map (λ (f : Slot). face_name s.st.now f.0) (faces_along_left s.faces)

-- the next one may be asked for
pub record CanGiveFacesAtEdge (s : FacesAtEdge) : Type 0 where
  pub faces : CanGiveFacesAlong s.faces
  pub live : AllLive s.st.now.faces.cells (faces_along_left s.faces)

-- the names of the faces at a vertex that are still to come
abbrev pub faces_at_vert_left : FacesAtVert → List FaceName
faces_at_vert_left s = map (λ (f : Slot). face_name s.st.now f.0) (faces_around_left s.faces)

-- the next one may be asked for
pub record CanGiveFacesAtVert (s : FacesAtVert) : Type 0 where
  pub faces : CanGiveFacesAround s.faces
  pub live : AllLive s.st.now.faces.cells (faces_around_left s.faces)

-- ---- by rising name

-- the names of the vertices that are still to come
abbrev pub verts_by_name_left : VertsByName → List VertName
verts_by_name_left s = map (λ (v : Slot). vert_name s.st.now v.0) (verts_rising_left s.verts)

-- the next one may be asked for
abbrev pub CanGiveVertsByName : VertsByName → Type 0
CanGiveVertsByName s = AllLive s.st.now.verts.cells (verts_rising_left s.verts)

-- the names of the edges that are still to come
abbrev pub edges_by_name_left : EdgesByName → List EdgeName
edges_by_name_left s = map (λ (e : Slot). edge_name s.st.now e.0) (edges_rising_left s.edges)

-- the next one may be asked for
abbrev pub CanGiveEdgesByName : EdgesByName → Type 0
CanGiveEdgesByName s = AllLive s.st.now.edges.cells (edges_rising_left s.edges)

-- the names of the faces that are still to come
abbrev pub faces_by_name_left : FacesByName → List FaceName
faces_by_name_left s = map (λ (f : Slot). face_name s.st.now f.0) (faces_rising_left s.faces)

-- the next one may be asked for
abbrev pub CanGiveFacesByName : FacesByName → Type 0
CanGiveFacesByName s = AllLive s.st.now.faces.cells (faces_rising_left s.faces)

-- ---- corners

-- the corners along an edge that are still to come
abbrev pub corners_at_edge_left : CornersAtEdge → List (FaceName × ℕ)
corners_at_edge_left s = map (place_of s.st.now) (loops_along_left s.loops)

-- the next one may be asked for
pub record CanGiveCornersAtEdge (s : CornersAtEdge) : Type 0 where
  pub whole : (n : Counters) × IsWhole s.st.now n
  pub loops : CanGiveLoopsAlong s.loops
  pub live : AllLive s.st.now.loops (loops_along_left s.loops)

-- the corners at a vertex that are still to come
abbrev pub corners_at_vert_left : CornersAtVert → List (FaceName × ℕ)
corners_at_vert_left s = map (place_of s.st.now) (loops_around_left s.loops)

-- the next one may be asked for
pub record CanGiveCornersAtVert (s : CornersAtVert) : Type 0 where
  pub whole : (n : Counters) × IsWhole s.st.now n
  pub loops : CanGiveLoopsAround s.loops
  pub live : AllLive s.st.now.loops (loops_around_left s.loops)

-- so many places of a face from a position on
abbrev pub places_from : FaceName → ℕ → ℕ → List (FaceName × ℕ)
places_from f i n = map (λ k. (f, k)) (range_with_len i n)

-- the corners of a face that are still to come
abbrev pub corners_in_left : CornersIn → List (FaceName × ℕ)
corners_in_left s = places_from s.face s.next (length (corners_of (record_at (now s.mesh.now).faces s.face.0)) - s.next)

-- the next one may be asked for: the face is there
abbrev pub CanGiveCornersIn : CornersIn → Type 0
CanGiveCornersIn s = IsThere (now s.mesh.now).faces s.face.0

-- Places and names that stay while elements come and go.
use Rattle.std.specs.Prelude.{◌≡◌, ◌≤◌, ◌+◌, ◌^◌, ℕ, List, length}
use Rattle.std.specs.declared.option.Option.{Option}
use Rattle.raw_pool.specs.Slots.{spare_count}
use Rattle.mesh_store.specs.Stored.{Stored}
use Rattle.mesh_model.specs.Table.{live}
use Rattle.mesh_model.specs.Complex.{Complex, corner_sum}
use Rattle.mesh_model.specs.declared.limits.TheConstants.{MAX_VERTS, MAX_EDGES, MAX_FACES}
use Rattle.mesh_records.specs.ReadOff.{NameLists, layers_in}
use Rattle.mesh_records.specs.Room.{Amounts}

-- a pool has no fewer places, and of the vacant ones no more are used than this
pub record KeepsCells {X : Type 0} (used : ℕ) (old new : List (Option X)) : Type 0 where
  pub long : length old ≤ length new
  pub spare : spare_count old ≤ spare_count new + used

-- no pool has fewer places, no directory reaches less far, and of the vacant places no more are used than this
pub record KeepsPlaces (used : Amounts) (old new : Stored) : Type 0 where
  pub verts : KeepsCells used.verts old.verts.cells new.verts.cells
  pub edges : KeepsCells used.edges old.edges.cells new.edges.cells
  pub loops : KeepsCells used.corners old.loops new.loops
  pub faces : KeepsCells used.faces old.faces.cells new.faces.cells
  pub vert_reach : length old.verts.names ≤ length new.verts.names
  pub edge_reach : length old.edges.names ≤ length new.edges.names
  pub face_reach : length old.faces.names ≤ length new.faces.names

-- a store has the layers of a complex, a place for each of its elements and each of its corners, and its directories
-- reach its names; the numbers of these are within the limits
pub record CanTake (st : Stored) (c : Complex) : Type 0 where
  pub layers : layers_in st ≡ c.layers
  pub verts : live c.verts ≤ length st.verts.cells
  pub edges : live c.edges ≤ length st.edges.cells
  pub corners : corner_sum c.faces ≤ length st.loops
  pub faces : live c.faces ≤ length st.faces.cells
  pub vert_reach : length c.verts ≤ length st.verts.names
  pub edge_reach : length c.edges ≤ length st.edges.names
  pub face_reach : length c.faces ≤ length st.faces.names
  pub vert_limit : length c.verts ≤ MAX_VERTS
  pub edge_limit : length c.edges ≤ MAX_EDGES
  pub face_limit : length c.faces ≤ MAX_FACES
  pub corner_limit : corner_sum c.faces ≤ 2 ^ 24

-- besides, the lists of names are the same: once its elements are gone, the complex can be put there without memory
pub record CanBecome (st : Stored) (lists : NameLists) (c : Complex) : Type 0 where
  pub takes : CanTake st c
  pub materials : lists.materials ≡ c.materials
  pub libraries : lists.libraries ≡ c.libraries

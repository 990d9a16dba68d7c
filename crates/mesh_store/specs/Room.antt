-- Room for elements, names and rows of values that are to come.
use Rattle.std.specs.Prelude.{◌≡◌, ◌≤◌, ◌+◌, ◌-◌, ℕ, nat_le, if◌then◌else◌, List, length, slice_index}
use Rattle.std.specs.declared.option.Option.{Option}
use Rattle.cust_data.specs.Layers.{LayerTable, with_places}
use Rattle.raw_pool.specs.Slots.{spare_count, GrowsFor}
use Rattle.mesh_store.specs.Slots.{WidensTo}
use Rattle.mesh_store.specs.Naming.{NamedCells}
use Rattle.mesh_store.specs.Stored.{Stored}

-- each cell stays; where there is room for n none is made, else fewer places than what lacks and a chunk
pub record WidensCells {X : Type 0} (old new : List (Option X)) (n chunk : ℕ) : Type 0 where
  pub grows : GrowsFor old new n chunk
  pub enough : n ≤ spare_count old → new ≡ old

-- so too of a pool with names, of which each stays, and some are made below the reach
pub record WidensPool {X : Type 0} (old new : NamedCells X) (n chunk reach : ℕ) : Type 0 where
  pub cells : WidensCells old.cells new.cells n chunk
  pub names : WidensTo old.names new.names reach

-- how many places a list has at most once there is room for n
abbrev pub most_places : {X : Type 0} → List (Option X) → ℕ → ℕ → ℕ
most_places cells n chunk = if nat_le n (spare_count cells) then length cells else length cells +
    (n - spare_count cells) + (chunk - 1)

-- layers and rows stay; some rows of zeros come behind them, where there are fewer than so many
pub record WidensRows (old new : LayerTable) (most : ℕ) : Type 0 where
  pub until : ℕ
  pub same : new ≡ with_places old until
  pub few : until ≤ most

-- the same of all pools of a store, and of their rows
pub record WidensStore (old new : Stored) (more_verts more_edges more_corners more_faces chunk : ℕ) (reach : List ℕ) :
    Type 0 where
  pub verts : WidensPool old.verts new.verts more_verts chunk (slice_index reach 0)
  pub edges : WidensPool old.edges new.edges more_edges chunk (slice_index reach 1)
  pub loops : WidensCells old.loops new.loops more_corners chunk
  pub faces : WidensPool old.faces new.faces more_faces chunk (slice_index reach 2)
  pub vert_rows : WidensRows old.values.verts new.values.verts (most_places old.verts.cells more_verts chunk)
  pub edge_rows : WidensRows old.values.edges new.values.edges (most_places old.edges.cells more_edges chunk)
  pub loop_rows : WidensRows old.values.loops new.values.loops (most_places old.loops more_corners chunk)
  pub face_rows : WidensRows old.values.faces new.values.faces (most_places old.faces.cells more_faces chunk)

-- so many elements of each kind, and the names below the reaches, need no memory
pub record HasRoom (st : Stored) (more_verts more_edges more_corners more_faces : ℕ) (reach : List ℕ) : Type 0 where
  pub verts : more_verts ≤ spare_count st.verts.cells
  pub edges : more_edges ≤ spare_count st.edges.cells
  pub corners : more_corners ≤ spare_count st.loops
  pub faces : more_faces ≤ spare_count st.faces.cells
  pub vert_names : slice_index reach 0 ≤ length st.verts.names
  pub edge_names : slice_index reach 1 ≤ length st.edges.names
  pub face_names : slice_index reach 2 ≤ length st.faces.names

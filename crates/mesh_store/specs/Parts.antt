-- The four parts of a store: what is live in each, and its values.
use Rattle.std.specs.Prelude.{◌≤◌, ◌<◌, ◌^◌, ℕ, length}
use Rattle.cust_data.specs.Layers.{LayerTable}
use Rattle.raw_pool.specs.Slots.{IsLive, spare_count}
use Rattle.mesh_store.specs.Slots.{vacated}
use Rattle.mesh_store.specs.Stored.{Stored}
use Rattle.mesh_store.specs.declared.layers.Layers.{Layers}
use Rattle.mesh_store.specs.declared.layers.Part.{Part}
use Rattle.mesh_store.specs.declared.layers.Part.TheVariants.{Vert, Edge, Loop, Face}

-- the values of a part
abbrev pub table_of : Part → Layers → LayerTable
table_of Vert v = v.verts
table_of Edge v = v.edges
table_of Loop v = v.loops
table_of Face v = v.faces

-- the four with those of one part replaced
abbrev pub with_table : Part → LayerTable → Layers → Layers
with_table Vert t v = record v { verts = t }
with_table Edge t v = record v { edges = t }
with_table Loop t v = record v { loops = t }
with_table Face t v = record v { faces = t }

-- the store with the values of one part changed
abbrev pub change_table : Part → (LayerTable → LayerTable) → Stored → Stored
change_table p f st = record st { values = with_table p (f (table_of p st.values)) st.values }

-- a slot is live in the part's pool
abbrev pub IsLiveIn : Part → Stored → ℕ → Type 0
IsLiveIn Vert st s = IsLive st.verts.cells s
IsLiveIn Edge st s = IsLive st.edges.cells s
IsLiveIn Loop st s = IsLive st.loops s
IsLiveIn Face st s = IsLive st.faces.cells s

-- how many places the part's pool has
abbrev pub places_in : Part → Stored → ℕ
places_in Vert st = length st.verts.cells
places_in Edge st = length st.edges.cells
places_in Loop st = length st.loops
places_in Face st = length st.faces.cells

-- how many of them are vacant
abbrev pub spare_in : Part → Stored → ℕ
spare_in Vert st = spare_count st.verts.cells
spare_in Edge st = spare_count st.edges.cells
spare_in Loop st = spare_count st.loops
spare_in Face st = spare_count st.faces.cells

-- each pool has a row of values for each of its places, and there are never as many loops as 32 bits could count
pub record HasRows (st : Stored) : Type 0 where
  pub verts : length st.verts.cells ≤ length st.values.verts.rows
  pub edges : length st.edges.cells ≤ length st.values.edges.rows
  pub loops : length st.loops ≤ length st.values.loops.rows
  pub faces : length st.faces.cells ≤ length st.values.faces.rows
  pub few : length st.loops < 2 ^ 32

-- as many places and names, layers and rows, and nothing that is live
abbrev pub cleared : Stored → Stored
cleared st = record {
  verts = record { cells = vacated st.verts.cells; names = vacated st.verts.names };
  edges = record { cells = vacated st.edges.cells; names = vacated st.edges.names };
  loops = vacated st.loops;
  faces = record { cells = vacated st.faces.cells; names = vacated st.faces.names };
  values = st.values;
}

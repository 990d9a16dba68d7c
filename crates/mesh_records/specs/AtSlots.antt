-- What a store has of the element at a slot, beside links, first members and lengths.
use Rattle.std.specs.Prelude.{◌≡◌, ℕ, ℤ, true, is_some, slice_index_or, List}
use Rattle.std.specs.declared.option.Option.{Option}
use Rattle.std.specs.Option.{option_map}
use Rattle.cust_data.specs.Layers.{row_of}
use Rattle.raw_pool.specs.declared.pool.Slot.{Slot}
use Rattle.mesh_store.specs.Slots.{at}
use Rattle.mesh_store.specs.Stored.{Stored, no_slot}
use Rattle.mesh_store.specs.declared.cells.VertCell.{VertCell}
use Rattle.mesh_store.specs.declared.cells.EdgeCell.{EdgeCell}
use Rattle.mesh_store.specs.declared.cells.LoopCell.{LoopCell}
use Rattle.mesh_store.specs.declared.cells.FaceCell.{FaceCell}

-- a vertex: the number of its name, its three coordinates and its row of values
pub record StoredVert : Type 0 where
  pub number : ℕ
  pub point : List ℤ
  pub vals : List ℤ

-- an edge: the number of its name, the slots of its two ends and its row of values
pub record StoredEdge : Type 0 where
  pub number : ℕ
  pub ends : List Slot
  pub vals : List ℤ

-- a loop: the slots of its vertex, its edge and its face, and its row of values
pub record StoredLoop : Type 0 where
  pub vert : Slot
  pub edge : Slot
  pub face : Slot
  pub vals : List ℤ

-- a face: the number of its name and its row of values
pub record StoredFace : Type 0 where
  pub number : ℕ
  pub vals : List ℤ

-- the vertex at a slot, if one is live there
abbrev pub vert_in : Stored → ℕ → Option StoredVert
vert_in st s = option_map
    (λ (c : VertCell). record { number = c.number; point = c.point; vals = row_of st.values.verts s })
    (at st.verts.cells s)

-- the edge at a slot
abbrev pub edge_in : Stored → ℕ → Option StoredEdge
edge_in st s = option_map
    (λ (c : EdgeCell). record { number = c.number; ends = c.ends; vals = row_of st.values.edges s })
    (at st.edges.cells s)

-- the loop at a slot
abbrev pub loop_in : Stored → ℕ → Option StoredLoop
loop_in st s = option_map
    (λ (c : LoopCell). record { vert = c.vert; edge = c.edge; face = c.face; vals = row_of st.values.loops s })
    (at st.loops s)

-- the face at a slot
abbrev pub face_in : Stored → ℕ → Option StoredFace
face_in st s = option_map
    (λ (c : FaceCell). record { number = c.number; vals = row_of st.values.faces s })
    (at st.faces.cells s)

-- the slot at which an edge ends on a side
abbrev pub end_of : ℕ → StoredEdge → ℕ
end_of side e = (slice_index_or e.ends side no_slot).0

-- something is at a slot
abbrev pub IsAt : {X : Type 0} → (ℕ → Option X) → ℕ → Type 0
IsAt there s = is_some (there s) ≡ true

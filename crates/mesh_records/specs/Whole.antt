-- The rule of a mesh, slot by slot.
use Rattle.std.specs.Prelude.{◌≡◌, ◌≢◌, ◌≤◌, ◌+◌, ◌^◌, ℕ, List, [], length}
use Rattle.std.specs.declared.option.Option.{Option}
use Rattle.std.specs.declared.option.Option.TheVariants.{None, Some}
use Rattle.cust_data.specs.Layers.{IsTable}
use Rattle.raw_pool.specs.declared.pool.Slot.{Slot}
use Rattle.raw_pool.specs.Slots.{spare_count}
use Rattle.mesh_store.specs.Slots.{at}
use Rattle.mesh_store.specs.Naming.{AreNamed}
use Rattle.mesh_store.specs.Stored.{Stored}
use Rattle.mesh_store.specs.Parts.{HasRows}
use Rattle.mesh_cycles.specs.Cycles.{HaveCycles, round_of}
use Rattle.mesh_model.specs.Complex.{corner_sum}
use Rattle.mesh_model.specs.declared.limits.TheConstants.{MAX_VERTS, MAX_EDGES, MAX_FACES}
use Rattle.mesh_model.specs.declared.records.Counters.{Counters}
use Rattle.mesh_records.specs.AtSlots.{StoredEdge, StoredLoop, vert_in, edge_in, loop_in, face_in, end_of, IsAt}
use Rattle.mesh_records.specs.ReadOff.{table, face_at}

-- ---- records

-- the slots that a live element names are live
pub record AreLinked (st : Stored) : Type 0 where
  pub a : (s : ℕ) (e : StoredEdge) → edge_in st s ≡ Some e → IsAt (vert_in st) (end_of 0 e)
  pub b : (s : ℕ) (e : StoredEdge) → edge_in st s ≡ Some e → IsAt (vert_in st) (end_of 1 e)
  pub vert : (s : ℕ) (l : StoredLoop) → loop_in st s ≡ Some l → IsAt (vert_in st) l.vert.0
  pub edge : (s : ℕ) (l : StoredLoop) → loop_in st s ≡ Some l → IsAt (edge_in st) l.edge.0
  pub face : (s : ℕ) (l : StoredLoop) → loop_in st s ≡ Some l → IsAt (face_in st) l.face.0

-- the directories lead one to one from names to the live slots
pub record AreDirectories (st : Stored) : Type 0 where
  pub verts : AreNamed (λ c. c.number) st.verts.cells st.verts.names
  pub edges : AreNamed (λ c. c.number) st.edges.cells st.edges.names
  pub faces : AreNamed (λ c. c.number) st.faces.cells st.faces.names

-- no name from a bound on is given
abbrev pub NoneFrom : List (Option Slot) → ℕ → Type 0
NoneFrom names n = (k : ℕ) → n ≤ k → at names k ≡ None

-- no name from the next one on is given
pub record AreBelow (st : Stored) (n : Counters) : Type 0 where
  pub verts : NoneFrom st.verts.names n.verts
  pub edges : NoneFrom st.edges.names n.edges
  pub faces : NoneFrom st.faces.names n.faces

-- what is named is there, and names lead to all that is live and come one after the other
pub record AreRecords (st : Stored) (n : Counters) : Type 0 where
  pub linked : AreLinked st
  pub named : AreDirectories st
  pub below : AreBelow st n

-- ---- values

-- layers are allowed, and each row has a number for each of theirs; each place has a row
pub record HaveValues (st : Stored) : Type 0 where
  pub verts : IsTable st.values.verts
  pub edges : IsTable st.values.edges
  pub loops : IsTable st.values.loops
  pub faces : IsTable st.values.faces
  pub rows : HasRows st

-- ---- sizes

-- a pool has at most so many live places, and is small enough to grow
pub record IsFew {X : Type 0} (cells : List (Option X)) (given : ℕ) : Type 0 where
  pub live : length cells ≤ given + spare_count cells
  pub small : length cells ≤ 2 ^ 26

-- the counters are within the limits and within the directories' reach, and the pools are small
pub record AreSizes (st : Stored) (n : Counters) : Type 0 where
  pub vert_limit : n.verts ≤ MAX_VERTS
  pub edge_limit : n.edges ≤ MAX_EDGES
  pub face_limit : n.faces ≤ MAX_FACES
  pub corner_limit : n.corners ≤ 2 ^ 24
  pub vert_reach : n.verts ≤ length st.verts.names
  pub edge_reach : n.edges ≤ length st.edges.names
  pub face_reach : n.faces ≤ length st.faces.names
  pub verts : IsFew st.verts.cells n.verts
  pub edges : IsFew st.edges.cells n.edges
  pub faces : IsFew st.faces.cells n.faces
  pub loops : IsFew st.loops n.corners

-- ---- the rule

-- every live face has a loop
abbrev pub HaveLoops : Stored → Type 0
HaveLoops st = (f : ℕ) → IsAt (face_in st) f → round_of st f ≢ []

-- all of the rule but that each face has a loop, which a face lacks while a call is at work on it
pub record IsNearlyWhole (st : Stored) (n : Counters) : Type 0 where
  pub records : AreRecords st n
  pub cycles : HaveCycles st
  pub values : HaveValues st
  pub sizes : AreSizes st n

-- the rule of a mesh
pub record IsWhole (st : Stored) (n : Counters) : Type 0 where
  pub records : AreRecords st n
  pub cycles : HaveCycles st
  pub values : HaveValues st
  pub sizes : AreSizes st n
  pub some : HaveLoops st
  pub corners : n.corners ≡ corner_sum (table (face_at st) n.faces)

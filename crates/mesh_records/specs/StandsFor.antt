-- When a store with its next names and its lists of names stands for a complex: one clause for each part. Links are
-- compared with filters over all records.
use Rattle.std.specs.Prelude.{◌≡◌, ◌↔◌, ◌+◌, ◌==◌, ℕ, is_some, if◌then◌else◌, List, [], ◌∷◌, length, map}
use Rattle.std.specs.declared.option.Option.{Option}
use Rattle.std.specs.declared.option.Option.TheVariants.{Some}
use Rattle.std.specs.Option.{option_map, option_map_or}
use Rattle.raw_pool.specs.declared.pool.Slot.{Slot}
use Rattle.link_ring.specs.Members.{HasMember, AllDistinct}
use Rattle.mesh_store.specs.Slots.{at}
use Rattle.mesh_store.specs.Naming.{NamedCells, AreNamed}
use Rattle.mesh_store.specs.Stored.{Stored}
use Rattle.mesh_cycles.specs.Owners.{face_of}
use Rattle.mesh_cycles.specs.Cycles.{AreCycles, AreCounted, round_of}
use Rattle.mesh_cycles.specs.Found.{loops_in, loops_along}
use Rattle.mesh_model.specs.Table.{at as record_at}
use Rattle.mesh_model.specs.Complex.{Complex}
use Rattle.mesh_model.specs.Incidence.{edges_at, corners_at_edge}
use Rattle.mesh_model.specs.declared.names.FaceName.{FaceName}
use Rattle.mesh_model.specs.declared.records.Counters.{Counters}
use Rattle.mesh_records.specs.AtSlots.{StoredLoop, StoredFace, vert_in, edge_in, loop_in, face_in}
use Rattle.mesh_records.specs.ReadOff.{NameLists, vert_rec, edge_rec, face_rec, names_around, layers_in}

-- a directory leads one to one from the names of a table to the live slots
pub record IsDirectory {X Y : Type 0} (number : X → ℕ) (p : NamedCells X) (table : List (Option Y)) : Type 0 where
  pub named : AreNamed number p.cells p.names
  pub same : (k : ℕ) → is_some (at p.names k) ≡ is_some (record_at table k)

-- a list has the members of another one, each once
pub record ListsOnce {X : Type 0} (xs ys : List X) : Type 0 where
  pub once : AllDistinct xs
  pub same : (x : X) → HasMember xs x ↔ HasMember ys x

-- the name of the face at a slot, and f0 where none is
abbrev pub face_name : Stored → ℕ → FaceName
face_name st s = record { 0 = option_map_or (λ (f : StoredFace). f.number) (face_in st s) 0 }

-- the place of a slot in a list
abbrev pub place_in : List Slot → Slot → ℕ
place_in [] l = 0
place_in (x ∷ xs) l = if x.0 == l.0 then 0 else place_in xs l + 1

-- the face of a loop
abbrev pub owner_of : Stored → Slot → ℕ
owner_of st l = option_map_or (λ (k : StoredLoop). k.face.0) (loop_in st l.0) 0

-- a loop by the name of its face and its position there
abbrev pub place_of : Stored → Slot → FaceName × ℕ
place_of st l = (face_name st (owner_of st l), place_in (loops_in st (owner_of st l)) l)

-- the store with its next names and its lists of names stands for the complex
pub record StandsFor (st : Stored) (n : Counters) (lists : NameLists) (c : Complex) : Type 0 where
  -- the next names
  pub next_verts : length c.verts ≡ n.verts
  pub next_edges : length c.edges ≡ n.edges
  pub next_faces : length c.faces ≡ n.faces
  -- names lead one to one to the live slots
  pub verts : IsDirectory (λ k. k.number) st.verts c.verts
  pub edges : IsDirectory (λ k. k.number) st.edges c.edges
  pub faces : IsDirectory (λ k. k.number) st.faces c.faces
  -- what is stored at a slot is the record of its name; the layers are the same
  pub points : (k : ℕ) (s : Slot) → at st.verts.names k ≡ Some s
      → record_at c.verts k ≡ option_map vert_rec (vert_in st s.0)
  pub ends : (k : ℕ) (s : Slot) → at st.edges.names k ≡ Some s
      → record_at c.edges k ≡ option_map (edge_rec st) (edge_in st s.0)
  pub corners : (k : ℕ) (s : Slot) → at st.faces.names k ≡ Some s
      → record_at c.faces k ≡ option_map (face_rec st s.0) (face_in st s.0)
  pub layers : layers_in st ≡ c.layers
  -- the names of materials and of their libraries
  pub materials : lists.materials ≡ c.materials
  pub libraries : lists.libraries ≡ c.libraries
  -- every cycle reads as the list of its members, and each member names its owner
  pub cycles : AreCycles st
  -- the cycle around a vertex has the edges that end there, each once
  pub disks : (k : ℕ) (s : Slot) → at st.verts.names k ≡ Some s
      → ListsOnce (names_around st s) (edges_at c (record { 0 = k }))
  -- the cycle around an edge has the corners along it, each once
  pub radials : (k : ℕ) (s : Slot) → at st.edges.names k ≡ Some s
      → ListsOnce (map (place_of st) (loops_along st s.0)) (corners_at_edge c (record { 0 = k }))
  -- the length of a face is the number of its loops, and every live loop is in the cycle of its face
  pub lens : AreCounted st
  pub rounds : (l : Slot) (f : ℕ) → face_of st l ≡ Some f → HasMember (round_of st f) (record { 0 = l })

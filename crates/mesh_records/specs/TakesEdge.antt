-- An edge is taken out of its disk cycles and dropped.
use Rattle.std.specs.Prelude.{◌≡◌, ◌+◌, ◌==◌, ℕ, Bool, not, length}
use Rattle.std.specs.List.{filter}
use Rattle.raw_pool.specs.declared.pool.Slot.{Slot}
use Rattle.raw_pool.specs.Slots.{spare_count}
use Rattle.mesh_store.specs.Naming.{without_cell}
use Rattle.mesh_store.specs.Stored.{Stored}
use Rattle.mesh_store.specs.declared.cells.Dart.{Dart}
use Rattle.mesh_cycles.specs.Owners.{len_of}
use Rattle.mesh_cycles.specs.Cycles.{AreCycles, AreWhole, disk_of, radial_of, round_of}
use Rattle.mesh_records.specs.Frames.{SameElements, SameSize}

-- the store without the edge at a slot, to which no name leads then
abbrev pub without_edge_at : Stored → Slot → Stored
without_edge_at st e = record st { edges = without_cell (λ c. c.number) st.edges e.0 }

-- a dart is of another edge
abbrev pub is_beside : Slot → Dart → Bool
is_beside e d = not (d.edge.0 == e.0)

-- the edge is gone, and its darts are in no disk cycle; all else is as before
pub record TakesEdge (old new : Stored) (e : Slot) : Type 0 where
  pub elements : SameElements (without_edge_at old e) new
  pub values : new.values ≡ old.values
  pub cycles : AreCycles new
  pub disks : (v : ℕ) → disk_of new v ≡ filter (is_beside e) (disk_of old v)
  pub radials : (d : ℕ) → radial_of new d ≡ radial_of old d
  pub rounds : (f : ℕ) → round_of new f ≡ round_of old f
  pub complete : AreWhole new
  pub lens : (f : ℕ) → len_of new f ≡ len_of old f
  pub spare : spare_count new.edges.cells ≡ spare_count old.edges.cells + 1
  pub long : length new.edges.cells ≡ length old.edges.cells
  pub edge_reach : length new.edges.names ≡ length old.edges.names
  pub verts : SameSize old.verts.cells new.verts.cells
  pub vert_reach : length new.verts.names ≡ length old.verts.names
  pub loops : new.loops ≡ old.loops
  pub faces : new.faces ≡ old.faces

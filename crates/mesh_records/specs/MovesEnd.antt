-- An end of an edge is moved to another vertex.
use Rattle.std.specs.Prelude.{◌≡◌, ◌≢◌, ◌==◌, ℕ, zero, suc, not, if◌then◌else◌, List, [], ◌∷◌, ◌++◌, slice_set, slice_index_or}
use Rattle.std.specs.List.{filter}
use Rattle.std.specs.Option.{option_map_or}
use Rattle.std.specs.declared.option.Option.{Option}
use Rattle.raw_pool.specs.declared.pool.Slot.{Slot}
use Rattle.mesh_store.specs.Stored.{Stored, change_edge}
use Rattle.mesh_store.specs.declared.cells.EdgeCell.{EdgeCell}
use Rattle.mesh_cycles.specs.Cycles.{HaveCycles, disk_of, radial_of, round_of}
use Rattle.mesh_cycles.specs.Lists.{same_dart, without}
use Rattle.mesh_model.specs.Kernel.{with_end}
use Rattle.mesh_model.specs.declared.names.VertName.{VertName}
use Rattle.mesh_model.specs.declared.names.EdgeName.{EdgeName}
use Rattle.mesh_model.specs.declared.records.EdgeRec.{EdgeRec}
use Rattle.mesh_model.specs.declared.records.Counters.{Counters}
use Rattle.mesh_records.specs.Changes.{with_last}
use Rattle.mesh_records.specs.Frames.{SameElements, SameSize}
use Rattle.mesh_records.specs.Puts.{dart_on}
use Rattle.mesh_records.specs.ReadOff.{NameLists, table, disk_at, read_off}
use Rattle.mesh_records.specs.Room.{UsesAtMost, none_of_all, room_in}
use Rattle.mesh_records.specs.Whole.{IsWhole}

-- the store with one end of the edge at a slot replaced
abbrev pub with_end_at : Stored → Slot → ℕ → Slot → Stored
with_end_at st e side to = change_edge (λ (c : EdgeCell). record c { ends = slice_set c.ends side to }) st e.0

-- an end is moved: its dart is gone from the cycle of the vertex where it was and last in that of the other; all else
-- is
-- as before
pub record MovesEnd (old new : Stored) (e : Slot) (side from : ℕ) (to : Slot) : Type 0 where
  pub elements : SameElements (with_end_at old e side to) new
  pub values : new.values ≡ old.values
  pub cycles : HaveCycles new
  pub left : disk_of new from ≡ without same_dart (dart_on e side) (disk_of old from)
  pub own : disk_of new to.0 ≡ disk_of old to.0 ++ dart_on e side ∷ []
  pub others : (v : ℕ) → v ≢ from → v ≢ to.0 → disk_of new v ≡ disk_of old v
  pub radials : (d : ℕ) → radial_of new d ≡ radial_of old d
  pub rounds : (f : ℕ) → round_of new f ≡ round_of old f
  pub verts : SameSize old.verts.cells new.verts.cells
  pub edges : SameSize old.edges.cells new.edges.cells
  pub vert_names : new.verts.names ≡ old.verts.names
  pub edge_names : new.edges.names ≡ old.edges.names
  pub loops : new.loops ≡ old.loops
  pub faces : new.faces ≡ old.faces

-- the name of the vertex at which an edge ends on a side: 0 where it begins, and each other side where it ends
abbrev pub end_name : ℕ → Option EdgeRec → ℕ
end_name zero e = option_map_or (λ (r : EdgeRec). r.a.0) e 0
end_name (suc side) e = option_map_or (λ (r : EdgeRec). r.b.0) e 0

-- the lists, where an edge is gone from one of them and last in another; the same where these are one
abbrev pub with_moved : List (List EdgeName) → EdgeName → ℕ → ℕ → List (List EdgeName)
with_moved lists e from to =
    if from == to then lists
    else with_last (slice_set lists from (filter (λ (x : EdgeName). not (x.0 == e.0)) (slice_index_or lists from [])))
    to e

-- the end of an edge is another vertex: the rule holds, and no room is gone
pub record SetsEnd (old new : Stored) (n : Counters) (k : EdgeName) (side from : ℕ) (v : VertName) : Type 0 where
  pub whole : IsWhole new n
  pub read : (lists : NameLists) → read_off new n lists ≡ with_end (read_off old n lists) k side v
  pub disks : table (disk_at new) n.verts ≡ with_moved (table (disk_at old) n.verts) k from v.0
  pub room : UsesAtMost none_of_all (room_in old n) (room_in new n)

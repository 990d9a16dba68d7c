-- What contracts see of a mesh.
use Rattle.std.specs.Prelude.{◌≡◌, ◌^◌, List, IfSome}
use Rattle.std.specs.declared.option.Option.{Option}
use Rattle.std.specs.declared.option.Option.TheVariants.{None, Some}
use Rattle.mesh_store.specs.Stored.{Stored}
use Rattle.mesh_model.specs.Complex.{Complex, no_complex}
use Rattle.mesh_model.specs.declared.names.EdgeName.{EdgeName}
use Rattle.mesh_model.specs.declared.records.Counters.{Counters}
use Rattle.mesh_records.specs.Places.{CanBecome}
use Rattle.mesh_records.specs.ReadOff.{NameLists, table, disk_at, read_off}
use Rattle.mesh_records.specs.Room.{Amounts, room_in}
use Rattle.mesh_records.specs.StandsFor.{StandsFor}
use Rattle.mesh_records.specs.Whole.{IsWhole}

-- the store; the next names and the number of live corners; the two lists of names; the complex to which there is a way
-- back; and how many records can still be noted for that way without memory
pub record Seen : Type 0 where
  pub stored : Stored
  pub next : Counters
  pub lists : NameLists
  pub base : Complex
  pub notes : Amounts

-- the complex that a mesh stands for
abbrev pub now : Seen → Complex
now m = read_off m.stored m.next m.lists

-- for each name of a vertex, the edges around the vertex
abbrev pub disks : Seen → List (List EdgeName)
disks m = table (disk_at m.stored) m.next.verts

-- how many elements can be added to a mesh without memory
abbrev pub room : Seen → Amounts
room m = room_in m.stored m.next

-- where the base is kept whole no note takes memory, and there are never more elements than this
abbrev pub notes_of_a_copy : Amounts
notes_of_a_copy = record { verts = 2 ^ 24; edges = 2 ^ 24; corners = 2 ^ 24; faces = 2 ^ 24 }

-- now, base and the disk lists are as before
pub record IsAsBefore (old new : Seen) : Type 0 where
  pub now : now new ≡ now old
  pub base : new.base ≡ old.base
  pub disks : disks new ≡ disks old

-- a mesh's own store, with its next names and its lists of names, stands for its complex
abbrev pub CyclesHold : Seen → Type 0
CyclesHold m = StandsFor m.stored m.next m.lists (now m)

-- a complex that is kept, and the empty one where none is
abbrev pub kept_base : Option Complex → Complex
kept_base None = no_complex
kept_base (Some c) = c

-- the rule of a mesh: that of its store, and that the store can become the complex that is kept, if there is one
pub record IsMesh (st : Stored) (n : Counters) (lists : NameLists) (base : Option Complex) : Type 0 where
  pub whole : IsWhole st n
  pub back : IfSome base (CanBecome st lists)

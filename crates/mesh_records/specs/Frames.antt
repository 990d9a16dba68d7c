-- What stays of a store while elements are added, taken away and linked.
use Rattle.std.specs.Prelude.{◌≡◌, ℕ, List, length}
use Rattle.std.specs.declared.option.Option.{Option}
use Rattle.std.specs.declared.option.Option.TheVariants.{Some}
use Rattle.raw_pool.specs.Slots.{spare_count}
use Rattle.mesh_store.specs.Slots.{at}
use Rattle.mesh_store.specs.Stored.{Stored}
use Rattle.mesh_model.specs.declared.records.Counters.{Counters}
use Rattle.mesh_records.specs.ReadOff.{NameLists}
use Rattle.mesh_records.specs.AtSlots.{vert_in, edge_in, loop_in, face_in}
use Rattle.mesh_records.specs.ReadOff.{table, disk_at, read_off, layers_in}
use Rattle.mesh_records.specs.Room.{UsesAtMost, none_of_all, room_in}
use Rattle.mesh_records.specs.Whole.{IsWhole}

-- what is at a slot in the first is there in the second
abbrev pub Within : {X : Type 0} → (ℕ → Option X) → (ℕ → Option X) → Type 0
Within {X} small big = (s : ℕ) (x : X) → small s ≡ Some x → big s ≡ Some x

-- each element of the first store is in the second, with its values
pub record Extends (small big : Stored) : Type 0 where
  pub verts : Within (vert_in small) (vert_in big)
  pub edges : Within (edge_in small) (edge_in big)
  pub loops : Within (loop_in small) (loop_in big)
  pub faces : Within (face_in small) (face_in big)

-- the same elements are at the same slots, with their values, and names and layers are the same
pub record SameElements (old new : Stored) : Type 0 where
  pub verts : (s : ℕ) → vert_in new s ≡ vert_in old s
  pub edges : (s : ℕ) → edge_in new s ≡ edge_in old s
  pub loops : (s : ℕ) → loop_in new s ≡ loop_in old s
  pub faces : (s : ℕ) → face_in new s ≡ face_in old s
  pub vert_names : (k : ℕ) → at new.verts.names k ≡ at old.verts.names k
  pub edge_names : (k : ℕ) → at new.edges.names k ≡ at old.edges.names k
  pub face_names : (k : ℕ) → at new.faces.names k ≡ at old.faces.names k
  pub layers : layers_in new ≡ layers_in old

-- a pool has as many places, and as many of them vacant
pub record SameSize {X : Type 0} (old new : List (Option X)) : Type 0 where
  pub long : length new ≡ length old
  pub spare : spare_count new ≡ spare_count old

-- the rule holds, what is read is as before, and no room is gone
pub record StaysWhole (old new : Stored) (n : Counters) : Type 0 where
  pub whole : IsWhole new n
  pub same : SameElements old new
  pub read : (lists : NameLists) → read_off new n lists ≡ read_off old n lists
  pub disks : table (disk_at new) n.verts ≡ table (disk_at old) n.verts
  pub room : UsesAtMost none_of_all (room_in old n) (room_in new n)

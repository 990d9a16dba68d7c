-- What a store stands for is changed in place.
use Rattle.std.specs.Prelude.{◌≡◌}
use Rattle.mesh_store.specs.Stored.{Stored}
use Rattle.mesh_model.specs.Complex.{Complex}
use Rattle.mesh_model.specs.declared.records.Counters.{Counters}
use Rattle.mesh_records.specs.ReadOff.{NameLists, table, disk_at, read_off}
use Rattle.mesh_records.specs.Room.{UsesAtMost, none_of_all, room_in}
use Rattle.mesh_records.specs.Whole.{IsWhole}

-- the rule holds, what is read is changed so, the disk lists are as before, and no room is gone
pub record Rewrites (old new : Stored) (n : Counters) (change : Complex → Complex) : Type 0 where
  pub whole : IsWhole new n
  pub read : (lists : NameLists) → read_off new n lists ≡ change (read_off old n lists)
  pub disks : table (disk_at new) n.verts ≡ table (disk_at old) n.verts
  pub room : UsesAtMost none_of_all (room_in old n) (room_in new n)

-- A face is added, corner by corner.
use Rattle.std.specs.Prelude.{◌≡◌, ◌+◌, ℕ, ℤ, List, length, map}
use Rattle.cust_data.specs.Layers.{total, zeros}
use Rattle.std.specs.declared.option.Option.TheVariants.{Some}
use Rattle.raw_pool.specs.declared.pool.Slot.{Slot}
use Rattle.raw_pool.specs.Slots.{spare_count}
use Rattle.mesh_store.specs.Slots.{at}
use Rattle.mesh_store.specs.Stored.{Stored}
use Rattle.mesh_model.specs.Making.{with_face}
use Rattle.mesh_model.specs.declared.names.VertName.{VertName}
use Rattle.mesh_model.specs.declared.names.EdgeName.{EdgeName}
use Rattle.mesh_model.specs.declared.records.CornerRec.{CornerRec}
use Rattle.mesh_model.specs.declared.records.Counters.{Counters}
use Rattle.mesh_records.specs.ReadOff.{NameLists}
use Rattle.mesh_cycles.specs.Found.{loops_in}
use Rattle.mesh_records.specs.AtSlots.{face_in}
use Rattle.mesh_records.specs.ReadOff.{table, corner_rec, disk_at, read_off}
use Rattle.mesh_records.specs.Room.{UsesAtMost, of_face, room_in}
use Rattle.mesh_records.specs.Whole.{IsNearlyWhole, IsWhole}

-- one name more, and so many corners
abbrev pub with_corners_more : Counters → ℕ → Counters
with_corners_more n k = record n { faces = n.faces + 1; corners = n.corners + k }

-- a corner at a vertex along an edge, whose values are 0
abbrev pub corner_put : Stored → VertName × EdgeName → CornerRec
corner_put st k = record { vert = k.0; edge = k.1; vals = zeros (total st.values.loops.layers) }

-- the next face has so far these corners, and all that is read beside it is as before
pub record PutsCorners (old new : Stored) (n : Counters) (f : Slot) (cs : List CornerRec) (vals : List ℤ) : Type 0 where
  pub nearly : IsNearlyWhole new (with_corners_more n (length cs))
  pub named : at new.faces.names n.faces ≡ Some f
  pub face : face_in new f.0 ≡ Some (record { number = n.faces; vals = vals })
  pub corners : map (corner_rec new) (loops_in new f.0) ≡ cs
  pub read : (lists : NameLists) → read_off new n lists ≡ read_off old n lists
  pub disks : table (disk_at new) n.verts ≡ table (disk_at old) n.verts
  pub vert_names : (k : ℕ) → at new.verts.names k ≡ at old.verts.names k
  pub edge_names : (k : ℕ) → at new.edges.names k ≡ at old.edges.names k
  pub spare : spare_count new.loops + length cs ≡ spare_count old.loops
  pub room : UsesAtMost (of_face (length cs)) (room_in old n) (room_in new (with_corners_more n (length cs)))

-- the rule holds, and the face has the next name
pub record AddsAFace (old new : Stored) (n : Counters) (cs : List CornerRec) (vals : List ℤ) : Type 0 where
  pub whole : IsWhole new (with_corners_more n (length cs))
  pub read : (lists : NameLists) → read_off new (with_corners_more n (length cs)) lists
      ≡ with_face (read_off old n lists) (record { corners = cs; vals = vals })
  pub disks : table (disk_at new) n.verts ≡ table (disk_at old) n.verts
  pub room : UsesAtMost (of_face (length cs)) (room_in old n) (room_in new (with_corners_more n (length cs)))

-- what stands past the end of a polygon
abbrev pub no_side : VertName × EdgeName
no_side = (record { 0 = 0 }, record { 0 = 0 })

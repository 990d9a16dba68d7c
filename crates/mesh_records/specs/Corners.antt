-- The corners of one face of a mesh are changed, one at a time.
use Rattle.std.specs.Prelude.{◌≡◌, ◌≢◌, ◌+◌, ℕ, List, [], ◌∷◌, ◌++◌}
use Rattle.std.specs.declared.option.Option.TheVariants.{Some}
use Rattle.raw_pool.specs.Slots.{spare_count}
use Rattle.mesh_store.specs.Slots.{at}
use Rattle.mesh_store.specs.Stored.{Stored}
use Rattle.mesh_model.specs.Complex.{corner_sum}
use Rattle.mesh_model.specs.Kernel.{with_corners_by, with_corner}
use Rattle.mesh_model.specs.declared.names.FaceName.{FaceName}
use Rattle.mesh_model.specs.declared.records.CornerRec.{CornerRec}
use Rattle.mesh_model.specs.declared.records.FaceRec.{FaceRec}
use Rattle.mesh_model.specs.declared.records.Counters.{Counters}
use Rattle.mesh_records.specs.ReadOff.{NameLists, table, face_at, disk_at, read_off, layers_in}
use Rattle.mesh_records.specs.Room.{Amounts, UsesAtMost, none_of_all, room_in}
use Rattle.mesh_records.specs.Whole.{IsNearlyWhole, IsWhole}

-- so many corners more
abbrev pub corners_more : Counters → ℕ → Counters
corners_more n count = record n { corners = n.corners + count }

-- so many corners
abbrev pub of_corners : ℕ → Amounts
of_corners count = record none_of_all { corners = count }

-- the rule holds, but that one face may have no corner
pub record IsWholeBut (k : FaceName) (st : Stored) (n : Counters) : Type 0 where
  pub nearly : IsNearlyWhole st n
  pub others : (j : ℕ) (r : FaceRec) → j ≢ k.0 → face_at st j ≡ Some r → r.corners ≢ []
  pub corners : n.corners ≡ corner_sum (table (face_at st) n.faces)

-- corners stand behind the others of a face, and the rule holds but for that face; all else is as before
pub record AppendsCorners (old new : Stored) (n : Counters) (k : FaceName) (cs : List CornerRec) (count : ℕ) : Type 0
  where
    pub whole : IsWholeBut k new (corners_more n count)
    pub read : (lists : NameLists) → read_off new (corners_more n count) lists
        ≡ with_corners_by (read_off old n lists) k (λ ks. ks ++ cs)
    pub disks : table (disk_at new) n.verts ≡ table (disk_at old) n.verts
    pub vert_names : (j : ℕ) → at new.verts.names j ≡ at old.verts.names j
    pub edge_names : (j : ℕ) → at new.edges.names j ≡ at old.edges.names j
    pub face_names : (j : ℕ) → at new.faces.names j ≡ at old.faces.names j
    pub layers : layers_in new ≡ layers_in old
    pub spare : spare_count new.loops + count ≡ spare_count old.loops
    pub room : UsesAtMost (of_corners count) (room_in old n) (room_in new (corners_more n count))

-- one corner stands behind the others of a face, and the rule holds
pub record AppendsCorner (old new : Stored) (n : Counters) (k : FaceName) (c : CornerRec) : Type 0 where
  pub whole : IsWhole new (corners_more n 1)
  pub read : (lists : NameLists) → read_off new (corners_more n 1) lists
      ≡ with_corners_by (read_off old n lists) k (λ ks. ks ++ c ∷ [])
  pub disks : table (disk_at new) n.verts ≡ table (disk_at old) n.verts
  pub vert_names : (j : ℕ) → at new.verts.names j ≡ at old.verts.names j
  pub edge_names : (j : ℕ) → at new.edges.names j ≡ at old.edges.names j
  pub face_names : (j : ℕ) → at new.faces.names j ≡ at old.faces.names j
  pub layers : layers_in new ≡ layers_in old
  pub spare : spare_count new.loops + 1 ≡ spare_count old.loops
  pub room : UsesAtMost (of_corners 1) (room_in old n) (room_in new (corners_more n 1))

-- a corner stands at a position of a face more: the rule holds, and all else is as before
pub record InsertsCorner (old new : Stored) (n : Counters) (k : FaceName) (i : ℕ) (c : CornerRec) : Type 0 where
  pub whole : IsWhole new (corners_more n 1)
  pub read : (lists : NameLists) → read_off new (corners_more n 1) lists
      ≡ with_corner (read_off old n lists) k i c
  pub disks : table (disk_at new) n.verts ≡ table (disk_at old) n.verts
  pub room : UsesAtMost (of_corners 1) (room_in old n) (room_in new (corners_more n 1))

-- names lead as before, and values are as before
pub record KeepsNames (old new : Stored) : Type 0 where
  pub vert_names : (j : ℕ) → at new.verts.names j ≡ at old.verts.names j
  pub edge_names : (j : ℕ) → at new.edges.names j ≡ at old.edges.names j
  pub face_names : (j : ℕ) → at new.faces.names j ≡ at old.faces.names j
  pub values : new.values ≡ old.values

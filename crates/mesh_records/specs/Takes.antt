-- A face loses its loops.
use Rattle.std.specs.Prelude.{◌≡◌, ◌≢◌, ◌+◌, ℕ, length, slice_set}
use Rattle.std.specs.declared.option.Option.TheVariants.{None, Some}
use Rattle.raw_pool.specs.declared.pool.Slot.{Slot}
use Rattle.raw_pool.specs.Slots.{spare_count}
use Rattle.mesh_store.specs.Stored.{Stored}
use Rattle.mesh_cycles.specs.Owners.{edge_of, len_of}
use Rattle.mesh_cycles.specs.Lists.{same_radial, same_round, without}
use Rattle.mesh_cycles.specs.Cycles.{AreCycles, IsCounted, disk_of, radial_of, round_of}
use Rattle.mesh_records.specs.AtSlots.{vert_in, edge_in, loop_in, face_in}
use Rattle.mesh_records.specs.Frames.{Within, SameElements, SameSize}

-- the store without the loop at a slot
abbrev pub without_loop_at : Stored → Slot → Stored
without_loop_at st l = record st { loops = slice_set st.loops l.0 None }

-- a loop is gone, from its face and along its edge too, and all else is as before
pub record TakesLoop (old new : Stored) (f l : Slot) : Type 0 where
  pub elements : SameElements (without_loop_at old l) new
  pub values : new.values ≡ old.values
  pub cycles : AreCycles new
  pub disks : (v : ℕ) → disk_of new v ≡ disk_of old v
  pub own : round_of new f.0 ≡ without same_round (record { 0 = l }) (round_of old f.0)
  pub others : (g : ℕ) → g ≢ f.0 → round_of new g ≡ round_of old g
  pub along : (e : ℕ) → edge_of old l ≡ Some e
      → radial_of new e ≡ without same_radial (record { 0 = l }) (radial_of old e)
  pub besides : (e d : ℕ) → edge_of old l ≡ Some e → d ≢ e → radial_of new d ≡ radial_of old d
  pub counted : IsCounted new f.0
  pub lens : (g : ℕ) → g ≢ f.0 → len_of new g ≡ len_of old g
  pub spare : spare_count new.loops ≡ spare_count old.loops + 1
  pub long : length new.loops ≡ length old.loops
  pub verts : new.verts ≡ old.verts
  pub edges : SameSize old.edges.cells new.edges.cells
  pub edge_names : new.edges.names ≡ old.edges.names
  pub faces : SameSize old.faces.cells new.faces.cells
  pub face_names : new.faces.names ≡ old.faces.names

-- loops of a face are gone, and all else is as before
pub record LosesLoops (old new : Stored) (f : ℕ) : Type 0 where
  pub loops : Within (loop_in new) (loop_in old)
  pub verts_in : (s : ℕ) → vert_in new s ≡ vert_in old s
  pub edges_in : (s : ℕ) → edge_in new s ≡ edge_in old s
  pub faces_in : (s : ℕ) → face_in new s ≡ face_in old s
  pub values : new.values ≡ old.values
  pub disks : (v : ℕ) → disk_of new v ≡ disk_of old v
  pub rounds : (g : ℕ) → g ≢ f → round_of new g ≡ round_of old g
  pub spare : spare_count new.loops + length (round_of new f) ≡ spare_count old.loops + length (round_of old f)
  pub long : length new.loops ≡ length old.loops
  pub verts : new.verts ≡ old.verts
  pub edges : SameSize old.edges.cells new.edges.cells
  pub edge_names : new.edges.names ≡ old.edges.names
  pub faces : SameSize old.faces.cells new.faces.cells
  pub face_names : new.faces.names ≡ old.faces.names

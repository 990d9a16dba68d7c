-- A store changes, and no cycle does; what an added element has.
use Rattle.std.specs.Prelude.{◌≡◌, ℕ, []}
use Rattle.std.specs.declared.option.Option.TheVariants.{Some}
use Rattle.raw_pool.specs.declared.pool.Slot.{Slot}
use Rattle.mesh_store.specs.Slots.{at}
use Rattle.mesh_store.specs.Stored.{Stored}
use Rattle.mesh_store.specs.declared.cells.VertCell.{VertCell}
use Rattle.mesh_store.specs.declared.cells.EdgeCell.{EdgeCell}
use Rattle.mesh_store.specs.declared.cells.LoopCell.{LoopCell}
use Rattle.mesh_store.specs.declared.cells.FaceCell.{FaceCell}
use Rattle.mesh_cycles.specs.Cycles.{AreCycles, disk_of, radial_of, round_of, IsInNoDisk, IsInNoRadial, IsInNoRound}
use Rattle.mesh_cycles.specs.Edits.{SameDisks, SameRadials, SameRounds}

-- all cycles hold, with the members that they had
pub record SameCycles (old new : Stored) : Type 0 where
  pub cycles : AreCycles new
  pub disks : SameDisks old new
  pub radials : SameRadials old new
  pub rounds : SameRounds old new

-- the vertex is there, and has no edge
pub record AddsVert (old new : Stored) (s : Slot) (c : VertCell) : Type 0 where
  pub same : SameCycles old new
  pub there : at new.verts.cells s.0 ≡ Some c
  pub empty : disk_of new s.0 ≡ []

-- the edge is there and has no loop, and its darts are in no cycle
pub record AddsEdge (old new : Stored) (s : Slot) (c : EdgeCell) : Type 0 where
  pub same : SameCycles old new
  pub there : at new.edges.cells s.0 ≡ Some c
  pub alone : (side : ℕ) → IsInNoDisk new (record { edge = s; side = side })
  pub empty : radial_of new s.0 ≡ []

-- the loop is there, and in no cycle
pub record AddsLoop (old new : Stored) (s : Slot) (c : LoopCell) : Type 0 where
  pub same : SameCycles old new
  pub there : at new.loops s.0 ≡ Some c
  pub no_radial : IsInNoRadial new s
  pub no_round : IsInNoRound new s

-- the face is there, and has no loop
pub record AddsFace (old new : Stored) (s : Slot) (c : FaceCell) : Type 0 where
  pub same : SameCycles old new
  pub there : at new.faces.cells s.0 ≡ Some c
  pub empty : round_of new s.0 ≡ []

-- Noted rows of values are as wide as a past says.
use Rattle.std.specs.Prelude.{◌≡◌, ℕ, ℤ, List, length}
use Rattle.std.specs.declared.option.Option.TheVariants.{Some}
use Rattle.std.specs.List.{All}
use Rattle.mesh_model.specs.ChangeSetNotes.{Notes}
use Rattle.mesh_model.specs.declared.records.VertRec.{VertRec}
use Rattle.mesh_model.specs.declared.records.EdgeRec.{EdgeRec}
use Rattle.mesh_model.specs.declared.records.CornerRec.{CornerRec}
use Rattle.mesh_model.specs.declared.records.FaceRec.{FaceRec}
use Rattle.mesh_trail.specs.Noted.{noted}
use Rattle.mesh_trail.specs.Pasts.{NotedPast}

-- each record that is noted has a property
abbrev pub EachNoted : {R : Type 0} → (R → Type 0) → Notes R → Type 0
EachNoted {R} P notes = (name : ℕ) (r : R) → noted notes name ≡ Some r → P r

-- a body's row is so wide
abbrev pub HasRow : {B : Type 0} → ℕ → B × List ℤ → Type 0
HasRow width r = length r.1 ≡ width

-- a corner's row is so wide
abbrev pub IsCornerWide : ℕ → CornerRec → Type 0
IsCornerWide width k = length k.vals ≡ width

-- the rows of a face and of its corners are so wide
pub record IsFaceWide (width corner_width : ℕ) (f : FaceRec) : Type 0 where
  pub vals : length f.vals ≡ width
  pub corners : All (IsCornerWide corner_width) f.corners

-- each row that a past notes is as wide as its widths say
pub record AreRowsWide (p : NotedPast) : Type 0 where
  pub verts : EachNoted (λ (r : VertRec). length r.vals ≡ p.widths.verts) p.changes.verts
  pub edges : EachNoted (λ (r : EdgeRec). length r.vals ≡ p.widths.edges) p.changes.edges
  pub faces : EachNoted (IsFaceWide p.widths.faces p.widths.corners) p.changes.faces

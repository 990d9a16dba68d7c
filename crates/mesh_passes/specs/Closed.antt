-- Faces that close.
use Rattle.std.specs.Prelude.{◌≡◌, ℕ, IsTrue}
use Rattle.std.specs.declared.option.Option.TheVariants.{Some}
use Rattle.mesh_model.specs.Table.{at}
use Rattle.mesh_model.specs.Complex.{Complex}
use Rattle.mesh_model.specs.Valid.{is_closed}
use Rattle.mesh_model.specs.declared.records.FaceRec.{FaceRec}

-- the corners of each face close, as in every valid complex
abbrev pub AreClosed : Complex → Type 0
AreClosed c = (n : ℕ) (f : FaceRec) → at c.faces n ≡ Some f → IsTrue (is_closed c.edges f.corners)

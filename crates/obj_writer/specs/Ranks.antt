-- A table of the indices of vertices.
use Rattle.std.specs.Prelude.{◌≡◌, ℕ, ◌<◌, List, length, get_or}
use Rattle.mesh_model.specs.Complex.{Complex}
use Rattle.obj_writer.specs.Written.{index}

-- the entries are the indices of the vertices with a name below n
pub record AreIndicesTo (c : Complex) (n : ℕ) (table : List ℕ) : Type 0 where
  pub long : length table ≡ n
  pub each : (v : ℕ) → v < n → get_or table v 0 ≡ index c v

-- each entry is the index of the vertex with that name
abbrev pub AreIndices : Complex → List ℕ → Type 0
AreIndices c table = AreIndicesTo c (length c.verts) table

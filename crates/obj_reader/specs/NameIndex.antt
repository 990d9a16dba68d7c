-- The names that an index has.
use Rattle.std.specs.Prelude.{◌≡◌, ℕ, List, map}
use Rattle.std.specs.Global.{Vec}
use Rattle.mesh_model.specs.Complex.{Complex}

-- the names in an index, in order
abbrev pub names_in : List (Vec ℕ) → List (List ℕ)
names_in keys = map (λ (v : Vec ℕ). v.items) keys

-- the indices have the names of the materials and of the libraries of a complex
pub record AreIndexed (c : Complex) (ms ls : List (Vec ℕ)) : Type 0 where
  pub materials : names_in ms ≡ c.materials
  pub libraries : names_in ls ≡ c.libraries

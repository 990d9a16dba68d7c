-- A set of names, as a flag for each name from 0 on. A name past the end isn't in it.
use Rattle.std.specs.Prelude.{ℕ, Bool, false, List, slice_index_or}

-- whether a name is in a set
abbrev pub is_in : List Bool → ℕ → Bool
is_in flags n = slice_index_or flags n false

-- What a reader knows.
use Rattle.std.specs.Prelude.{◌≡◌, ℕ, List}
use Rattle.std.specs.declared.option.Option.{Option}
use Rattle.std.specs.declared.option.Option.TheVariants.{None, Some}

-- a reader: the scale of its numbers, and the bytes fed so far, or None once memory ran out
pub record Reading : Type 0 where
  pub scale : ℕ
  pub fed : Option (List ℕ)

-- a reader at a scale was fed these bytes, and no memory was lacking
pub record IsFed (scale : ℕ) (bytes : List ℕ) (r : Reading) : Type 0 where
  pub at_scale : r.scale ≡ scale
  pub has_bytes : r.fed ≡ Some bytes

-- a reader lacked memory, and only answers that
abbrev pub IsLost : Reading → Type 0
IsLost r = r.fed ≡ None

-- What a chunk ends as, once a `&mut` into it has ended.
use Rattle.std.specs.Prelude.{ℕ, slice_set}
use Rattle.std.specs.Borrow.{Fml, RattleType, MutBor, Lends}
use Rattle.raw_pool.specs.Place.{Value}
use Rattle.raw_pool.specs.declared.chunk.Chunk.{Chunk}
use Rattle.raw_pool.specs.contracts.chunk.Chunk.{the_row}

-- the chunk with the value w at the place
abbrev pub with_value : {X : Type 0} → Chunk X → ℕ → X → Chunk X
with_value c i w = record { start = c.start; places = slice_set c.places i (Value w) }

-- the place ends with the last value written through r
abbrev pub lends_place : (R : RattleType) → MutBor (Chunk R.Denot) → ℕ → MutBor R.Denot → Fml
lends_place R c i r = Lends (the_row R) R c r (with_value c.now i)

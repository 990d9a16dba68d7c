-- What a chunk owns and lends, at values of the row R.
use Rattle.std.specs.Prelude.{◌≡◌, ℕ, ◌+◌, ◌*◌, ◌%◌, ◌^◌, ◌<◌, ◌≤◌, List, [], ◌∷◌, length}
use Rattle.std.specs.Align.{type_align}
use Rattle.std.specs.Mem.{type_size}
use base.Fraction.{full_share}
use base.Fml.{Lft, Fml, ftrue, ffalse, fsep, fex, fwand, froom}
use mir.Syntax.{ty_array, ty_int, w32}
use mir.Raw.{raw}
use denote.RattleType.{RattleType}
use denote.Builtin.{u32}
use denote.Memory.{lone, part_at, shared_of}
use denote.Sharing.{nothing, said, beside}
use denote.RawPtr.{Ptr, block_ptr, null_ptr}
use Rattle.std.specs.declared.alloc.Global.{Global}
use Rattle.std_heap.specs.contracts.GlobalAllocator.TheImpl.{ghosts}
use Rattle.raw_pool.specs.Place.{Place, Empty, Value, Link}

-- so many bytes at such an alignment have room for a link of four bytes, and its alignment
pub record IsWide (bytes alignment : ℕ) : Type 0 where
  pub wide : 4 ≤ bytes
  pub whole : bytes % 4 ≡ 0
  pub aligned : alignment % 4 ≡ 0

-- a place for a value of this type can hold a link
abbrev pub HoldsLink : RattleType → Type 0
HoldsLink R = IsWide (type_size R) (type_align R)

-- the one allocator, whose handle takes no bytes
abbrev pub heap : Global
heap = record { memory = record { seal = tt } }

module _ (R : RattleType) where
  -- one place, o bytes into the block b: room, a value, or a link with the way back from its four bytes to the room
  abbrev pub place_owns : ℕ → ℕ → Place R.Denot → Fml
  place_owns b o Empty = froom (raw (lone R.mir)) b o
  place_owns b o (Value x) = part_at R full_share x b o
  place_owns b o (Link n) = fsep (part_at u32 full_share n b o)
      (fwand (froom (ty_int w32) b o) (froom (raw (lone R.mir)) b o))

  -- places side by side
  abbrev pub row_owns : ℕ → ℕ → List (Place R.Denot) → Fml
  row_owns b o [] = ftrue
  row_owns b o (p ∷ ps) = fsep (place_owns b o p) (row_owns b (o + type_size R) ps)

  -- of a place a `&` reaches the value or the link
  abbrev pub place_lends : ℕ → ℕ → Place R.Denot → Lft → Fml
  place_lends b o Empty = nothing
  place_lends b o (Value x) = shared_of R x b o
  place_lends b o (Link n) = shared_of u32 n b o

  -- what a `&` reaches in places side by side
  abbrev pub row_lends : ℕ → ℕ → List (Place R.Denot) → Lft → Fml
  row_lends b o [] = nothing
  row_lends b o (p ∷ ps) = beside (place_lends b o p) (row_lends b (o + type_size R) ps)

  -- each of n places holds a link, and they take fewer than 2 ^ 63 bytes
  abbrev pub fits : ℕ → Fml
  fits n = fex (HoldsLink R × (n * type_size R < 2 ^ 63)) (λ _. ftrue)

  -- the right to give the block of n places back
  abbrev pub token : ℕ → Ptr → Fml
  token n at = ghosts.dealloc_token heap (raw (ty_array (lone R.mir) n)) at

  -- the places from the block's start on, and that right
  abbrev pub chunk_owns : Ptr → List (Place R.Denot) → Fml
  chunk_owns (block_ptr b o) ps = fsep (fits (length ps)) (fsep (row_owns b o ps) (token (length ps) (block_ptr b o)))
  chunk_owns null_ptr ps = ffalse

  -- what a `&` to the chunk holds: that bound, and what its places lend
  abbrev pub chunk_lends : Ptr → List (Place R.Denot) → Lft → Fml
  chunk_lends (block_ptr b o) ps = beside (said (fits (length ps))) (row_lends b o ps)
  chunk_lends null_ptr ps = said ffalse

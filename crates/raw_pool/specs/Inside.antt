-- How the fields of a pool give its slots.
use Rattle.std.specs.Prelude.{◌≡◌, ◌≤◌, ◌<◌, ◌+◌, ◌*◌, ◌^◌, ℕ, ⊤, List, [], ◌∷◌, ◌++◌, Option, length, get_or, map}
use Rattle.raw_pool.specs.Place.{Place, Empty, Value, Link}
use Rattle.raw_pool.specs.FreeList.{values, IsFree}
use Rattle.raw_pool.specs.Tags.{tag_at, NoTagFrom}
use Rattle.raw_pool.specs.declared.chunk.Chunk.{Chunk}

-- the places of a chunk
abbrev pub places_of : {X : Type 0} → Chunk X → List (Place X)
places_of c = c.places

-- the places of each chunk
abbrev pub rows : {X : Type 0} → List (Chunk X) → List (List (Place X))
rows cs = map places_of cs

-- one list after the other
abbrev pub joined : {X : Type 0} → List (List X) → List X
joined [] = []
joined (xs ∷ xss) = xs ++ joined xss

-- the places of all chunks, by their slots
abbrev pub all_places : {X : Type 0} → List (Chunk X) → List (Place X)
all_places cs = joined (rows cs)

-- the slots of all chunks
abbrev pub slots_of : {X : Type 0} → List (Chunk X) → List (Option X)
slots_of cs = values (all_places cs)

-- each chunk has n places
abbrev pub Even : {X : Type 0} → ℕ → List (List (Place X)) → Type 0
Even n [] = ⊤
Even n (ps ∷ pss) = (length ps ≡ n) × Even n pss

-- the bit is 1 at a value and 0 at a link, and no place is empty
abbrev pub TagOf : {X : Type 0} → Place X → ℕ → Type 0
TagOf Empty b = ⊥
TagOf (Value x) b = b ≡ 1
TagOf (Link n) b = b ≡ 0

-- each place has its bit
abbrev pub Tagged : {X : Type 0} → List (Place X) → List ℕ → Type 0
Tagged ps ws = (k : ℕ) → k < length ps → TagOf (get_or ps k Empty) (tag_at ws k)

-- the same of a chunk that begins with the slot start
abbrev pub TaggedFrom : {X : Type 0} → List (Place X) → List ℕ → ℕ → Type 0
TaggedFrom ps ws start = (k : ℕ) → k < length ps → TagOf (get_or ps k Empty) (tag_at ws (start + k))

-- what is true of each pool, whose chunks have n places
pub record PoolHolds {X : Type 0} (n : ℕ) (cs : List (Chunk X)) (ws : List ℕ) (head spare : ℕ) : Type 0 where
  pub positive : 1 ≤ n
  pub even : Even n (rows cs)
  pub small : length (all_places cs) < 2 ^ 32
  pub room : length (all_places cs) ≤ length ws * 64
  pub tagged : Tagged (all_places cs) ws
  pub past : NoTagFrom ws (length (all_places cs))
  pub free : IsFree (all_places cs) head spare

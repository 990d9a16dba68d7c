-- The list of the vacant places, which goes through the places themselves.
use Rattle.std.specs.Prelude.{◌≡◌, ◌⊎◌, ◌+◌, ◌<◌, ℕ, ⊤, cond, nat_lt, List, [], ◌∷◌, Option, Some, None, length, get_or}
use Rattle.raw_pool.specs.Place.{Place, Empty, Value, Link}
use Rattle.raw_pool.specs.Slots.{spare_count}

-- the value in a place, if there is one
abbrev pub value_of : {X : Type 0} → Place X → Option X
value_of Empty = None
value_of (Value x) = Some x
value_of (Link n) = None

-- what each place holds
abbrev pub values : {X : Type 0} → List (Place X) → List (Option X)
values [] = []
values (p ∷ ps) = value_of p ∷ values ps

-- the links lead from head through these slots, one after the other
abbrev pub Chain : {X : Type 0} → List (Place X) → ℕ → List ℕ → Type 0
Chain ps head [] = ⊤
Chain ps head (s ∷ ss) = (head ≡ s) × (n : ℕ) × (get_or ps s Empty ≡ Link n) × Chain ps n ss

-- s is one of the slots
abbrev pub Among : List ℕ → ℕ → Type 0
Among [] s = ⊥
Among (x ∷ xs) s = (x ≡ s) ⊎ Among xs s

-- no slot comes twice
abbrev pub Distinct : List ℕ → Type 0
Distinct [] = ⊤
Distinct (x ∷ xs) = (Among xs x → ⊥) × Distinct xs

-- from head on the links lead through as many places as are vacant, and through none twice
pub record IsFree {X : Type 0} (ps : List (Place X)) (head spare : ℕ) : Type 0 where
  pub free : List ℕ
  pub chain : Chain ps head free
  pub distinct : Distinct free
  pub count : length free ≡ spare
  pub all : spare_count (values ps) ≡ spare

-- the link of place k of n fresh places, of which the first is slot start: to the next place, and at the last to after
abbrev pub fresh_link : ℕ → ℕ → ℕ → ℕ → ℕ
fresh_link start n after k = cond (nat_lt (k + 1) n) (start + k + 1) after

-- fresh places: their links lead through them in rising order, and then on to after
pub record IsFresh {X : Type 0} (ps : List (Place X)) (start n after : ℕ) : Type 0 where
  pub long : length ps ≡ n
  pub at : (k : ℕ) → k < n → get_or ps k Empty ≡ Link (fresh_link start n after k)

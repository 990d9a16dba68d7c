-- A list of slots, or a table of names: what stands at each place from 0 on, or None.
use Rattle.std.specs.Prelude.{◌≡◌, ◌≤◌, ◌<◌, ◌-◌, ◌++◌, ℕ, List, Option, Some, None, get_or, length, replicate, slice_set}
use Rattle.std.specs.Option.{option_map}

-- what stands at a place, and None past the end
abbrev pub at : {X : Type 0} → List (Option X) → ℕ → Option X
at xs s = get_or xs s None

-- the list with what stands at one place changed
abbrev pub changed : {X : Type 0} → (X → X) → List (Option X) → ℕ → List (Option X)
changed f xs s = slice_set xs s (option_map f (at xs s))

-- what stands stays, and up to the bound there may be more places
pub record WidensTo {X : Type 0} (old new : List (Option X)) (bound : ℕ) : Type 0 where
  pub more : ℕ
  pub same : new ≡ old ++ replicate more None
  pub most : more ≤ bound - length old

-- the least name from low on that leads to a slot, which leads to s
pub record LeadsFirst {S : Type 0} (names : List (Option S)) (low : ℕ) (s : S) : Type 0 where
  pub name : ℕ
  pub from : low ≤ name
  pub here : at names name ≡ Some s
  pub none : (k : ℕ) → low ≤ k → k < name → at names k ≡ None

-- as many places, with nothing in them
abbrev pub vacated : {X : Type 0} → List (Option X) → List (Option X)
vacated xs = replicate (length xs) None

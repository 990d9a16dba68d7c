-- What a place of a chunk holds.
use Rattle.std.specs.Prelude.{◌≡◌, ◌<◌, ◌⊎◌, ℕ, List, length, get_or, Option, None, Some}
use Rattle.std.proofs.Common.{refl, inl, inr}
use Rattle.std.specs.Coded.{Coded, code_by, coded_list, coded_option, coded⊎, coded_ℕ}

-- a place holds nothing, a value, or the number of the next vacant slot
pub data Place (X : Type 0) : Type 0 where
  Empty : Place X
  Value : X → Place X
  Link : ℕ → Place X

abbrev to_sum : {X : Type 0} → Place X → Option (X ⊎ ℕ)
to_sum Empty = None
to_sum (Value x) = Some (inl x)
to_sum (Link n) = Some (inr n)

abbrev of_sum : {X : Type 0} → Option (X ⊎ ℕ) → Place X
of_sum None = Empty
of_sum (Some (inl x)) = Value x
of_sum (Some (inr n)) = Link n

-- how the logic stores a list of places
abbrev pub places_code : {X : Type 0} → Coded X → Coded (List (Place X))
places_code {X} c = coded_list (code_by (Option (X ⊎ ℕ)) (coded_option (coded⊎ c coded_ℕ)) to_sum of_sum
    (elim [ Empty ↦ refl | Value x ↦ refl | Link n ↦ refl ]))

module _ {X : Type 0} where
  -- the place at the index is there and holds nothing
  abbrev pub IsEmpty : List (Place X) → ℕ → Type 0
  IsEmpty ps i = (i < length ps) × (get_or ps i Empty ≡ Empty)

  -- the place at the index holds a value
  abbrev pub IsFilled : List (Place X) → ℕ → Type 0
  IsFilled ps i = (x : X) × (get_or ps i Empty ≡ Value x)

  -- the place at the index holds a link
  abbrev pub IsLinked : List (Place X) → ℕ → Type 0
  IsLinked ps i = (n : ℕ) × (get_or ps i Empty ≡ Link n)

-- Numbers at a scale.
use Rattle.std.specs.Prelude.{ℕ, zero, suc, ℤ, pos, neg_ℤ, ◌+◌, ◌==◌, ◌&&◌, Bool, true, false, not, nat_lt, nat_le}
use Rattle.std.specs.Prelude.{if◌then◌else◌, List, [], ◌∷◌, ◌++◌, length, drop, Option, Some, None, Result, Ok, Err}
use Rattle.std.specs.List.{list_all}
use Rattle.text_words.specs.Text.{is_digit, value, cut}
use Rattle.obj_format.specs.declared.obj_fault.ObjWhy.{ObjWhy}
use Rattle.obj_format.specs.declared.obj_fault.ObjWhy.TheVariants.{BadNumber, OffGrid, OutOfGrid}

-- the digit 0
abbrev pub is_zero : ℕ → Bool
is_zero b = b == 48

-- digits before and after the point, at least one
abbrev pub is_number : List ℕ → List ℕ → Bool
is_number whole part = (list_all is_digit whole && list_all is_digit part) && nat_lt 0 (length whole + length part)

-- so many digits, zeros where there are fewer
abbrev pub padded : ℕ → List ℕ → List ℕ
padded zero ds = []
padded (suc s) [] = 48 ∷ padded s []
padded (suc s) (d ∷ ds) = d ∷ padded s ds

-- a number of units on the grid
abbrev pub in_range : Bool → ℕ → Result ℤ ObjWhy
in_range negative n = if nat_le n 1000000000 then Ok (if negative then neg_ℤ (pos n) else pos n) else Err OutOfGrid

-- the digits before and after the point, at a scale
abbrev pub unsigned : ℕ → Bool → List ℕ → List ℕ → Result ℤ ObjWhy
unsigned scale negative whole part =
    if not (is_number whole part) then Err BadNumber
    else if not (list_all is_zero (drop scale part)) then Err OffGrid
    else in_range negative (value (whole ++ padded scale part))

-- digits without a point, or around one
abbrev pub halves_of : ℕ → Bool → List ℕ → Option (List ℕ × List ℕ) → Result ℤ ObjWhy
halves_of scale negative word None = unsigned scale negative word []
halves_of scale negative word (Some (whole, part)) = unsigned scale negative whole part

-- at its first point
abbrev pub halves : ℕ → Bool → List ℕ → Result ℤ ObjWhy
halves scale negative word = halves_of scale negative word (cut 46 word)

-- the units that a word with an optional sign spells
abbrev pub number : ℕ → List ℕ → Result ℤ ObjWhy
number scale [] = halves scale false []
number scale (b ∷ ds) = if b == 45 then halves scale true ds else if b == 43 then halves scale false ds else halves
    scale false (b ∷ ds)

-- any fault but that of its form
abbrev pub is_form : Result ℤ ObjWhy → Bool
is_form (Err BadNumber) = false
is_form _ = true

-- a word has the form of a number
abbrev pub is_numeral : List ℕ → Bool
is_numeral word = is_form (number 0 word)

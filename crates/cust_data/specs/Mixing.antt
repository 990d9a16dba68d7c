-- How numbers and rows are mixed, and means.
use Rattle.std.specs.Prelude.{ℤ, pos, ◌+ℤ◌, ◌-ℤ◌, ◌*ℤ◌, ◌≤ℤ◌, List, length, map, fold, replicate, slice_index_or}
use Rattle.std.specs.List.{flat_map, zip}
use Rattle.std.specs.Int.{int_div_euclid, int_min, int_max}
use Rattle.cust_data.specs.declared.rule.Rule.{Rule}
use Rattle.cust_data.specs.declared.rule.Rule.TheVariants.{Mix, Copy}
use Rattle.cust_data.specs.Layers.{Layer}

-- n by d, rounded towards minus infinity, d being above 0
abbrev pub floor_div : ℤ → ℤ → ℤ
floor_div n d = int_div_euclid n d

-- the number that lies num / den of the way from a to b, rounded towards minus infinity
abbrev pub mix : ℤ → ℤ → ℤ → ℤ → ℤ
mix a b num den = a +ℤ floor_div ((b -ℤ a) *ℤ num) den

-- r is not below both of a and b, and not above both
pub record IsBetween (a b r : ℤ) : Type 0 where
  pub low : int_min a b ≤ℤ r
  pub high : r ≤ℤ int_max a b

-- the numbers of two cells mixed one by one
abbrev pub mix_cell : List ℤ → List ℤ → ℤ → ℤ → List ℤ
mix_cell a b num den = map (λ ((x, y) : ℤ × ℤ). mix x y num den) (zip a b)

-- two numbers of a layer mixed by its rule
abbrev pub mix_by : Rule → ℤ → ℤ → ℤ → ℤ → ℤ
mix_by Mix a b num den = mix a b num den
mix_by Copy a b num den = a

-- the numbers of two cells mixed by the layer's rule
abbrev pub mix_cell_by : Rule → List ℤ → List ℤ → ℤ → ℤ → List ℤ
mix_cell_by Mix a b num den = mix_cell a b num den
mix_cell_by Copy a b num den = a

-- the rule of each number of a row
abbrev pub rules : List Layer → List Rule
rules layers = flat_map (λ (l : Layer). replicate l.width l.rule) layers

-- two lists of numbers mixed one by one, each by its rule
abbrev pub mix_numbers : List Rule → List ℤ → List ℤ → ℤ → ℤ → List ℤ
mix_numbers rs a b num den = map (λ ((rule, (x, y)) : Rule × (ℤ × ℤ)). mix_by rule x y num den) (zip rs (zip a b))

-- two rows mixed number by number, each number by the rule of its layer
abbrev pub mix_row : List Layer → List ℤ → List ℤ → ℤ → ℤ → List ℤ
mix_row layers a b num den = mix_numbers (rules layers) a b num den

-- the sum of numbers
abbrev pub int_sum : List ℤ → ℤ
int_sum values = fold ◌+ℤ◌ (pos 0) values

-- the mean of numbers of a layer by its rule: the sum by the count, rounded towards minus infinity, or the first
abbrev pub mean : Rule → List ℤ → ℤ
mean Mix values = floor_div (int_sum values) (pos (length values))
mean Copy values = slice_index_or values 0 (pos 0)

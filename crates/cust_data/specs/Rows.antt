-- Worked values, and what mixing means for every number.
use Rattle.std.specs.Prelude.{◌≡◌, ◌<◌, ◌+ℤ◌, ◌*ℤ◌, ◌≤ℤ◌, ◌<ℤ◌, ℕ, ℤ, pos, negsuc, true, false, List, [], ◌∷◌, ◌++◌, map, replicate}
use Rattle.std.specs.declared.option.Option.TheVariants.{None, Some}
use Rattle.cust_data.specs.declared.rule.Rule.TheVariants.{Mix, Copy}
use Rattle.cust_data.specs.declared.fault.LayerFault.TheVariants.{LayerExists, TooManyLayers, BadName, BadWidth}
use Rattle.cust_data.specs.Layers.{Layer, LayerTable, total, find_layer, is_layer_name, is_width, row_of, with_row, with_places, with_layer}
use Rattle.cust_data.specs.Mixing.{floor_div, mix, mix_row, mean}
use Rattle.cust_data.specs.Faults.{refusal_of}

-- ---- for every number

-- the quotient is the greatest number that, taken d times, isn't above n
abbrev pub QuotientIsFloor : Type 0
QuotientIsFloor =
    (n : ℤ) (d : ℕ) → 0 < d
    → ((floor_div n (pos d) *ℤ pos d) ≤ℤ n) × (n <ℤ ((floor_div n (pos d) +ℤ pos 1) *ℤ pos d))

-- none of the way is a, and all of it is b
abbrev pub MixHasEnds : Type 0
MixHasEnds = (a b : ℤ) (d : ℕ) → 0 < d → (mix a b (pos 0) (pos d) ≡ a) × (mix a b (pos d) (pos d) ≡ b)

-- ---- numbers

-- 2^60, and 2^60 below 0
abbrev pub largest : ℤ
largest = pos 1152921504606846976

abbrev pub least : ℤ
least = negsuc 1152921504606846975

-- the floor goes down, never towards 0
abbrev pub MixGoesDown : Type 0
MixGoesDown =
    (mix (pos 0) (pos 10) (pos 1) (pos 3) ≡ pos 3) × (mix (pos 0) (negsuc 9) (pos 1) (pos 3) ≡ negsuc 3)
    × (mix (negsuc 0) (pos 0) (pos 1) (pos 2) ≡ negsuc 0) × (mix (pos 0) (negsuc 0) (pos 1) (pos 2) ≡ negsuc 0)
    × (mix (negsuc 4) (negsuc 9) (pos 1) (pos 2) ≡ negsuc 7) × (mix (pos 7) (negsuc 6) (pos 1) (pos 4) ≡ pos 3)

-- none of the way, and all of it
abbrev pub MixAtEnds : Type 0
MixAtEnds =
    (mix (negsuc 4) (pos 9) (pos 0) (pos 7) ≡ negsuc 4) × (mix (negsuc 4) (pos 9) (pos 7) (pos 7) ≡ pos 9)
    × (mix largest least (pos 0) (pos 1000000) ≡ largest) × (mix largest least (pos 1000000) (pos 1000000) ≡ least)

-- the largest sizes, in a million parts: the product has 81 bits
abbrev pub MixIsExact : Type 0
MixIsExact =
    (mix least largest (pos 999999) (pos 1000000) ≡ pos 1152919198763837762)
    × (mix largest least (pos 999999) (pos 1000000) ≡ negsuc 1152919198763837762)
    × (mix least largest (pos 500000) (pos 1000000) ≡ pos 0)

-- means of both rules
abbrev pub MeanGoesDown : Type 0
MeanGoesDown =
    (mean Mix (negsuc 0 ∷ pos 0 ∷ []) ≡ negsuc 0) × (mean Mix (negsuc 6 ∷ negsuc 7 ∷ negsuc 7 ∷ []) ≡ negsuc 7)
    × (mean Mix (pos 7 ∷ pos 8 ∷ pos 8 ∷ []) ≡ pos 7) × (mean Mix (least ∷ least ∷ least ∷ []) ≡ least)
    × (mean Copy (negsuc 4 ∷ pos 9 ∷ []) ≡ negsuc 4)

-- ---- rows

-- a layer `uv` of two numbers that are mixed
abbrev pub uv : Layer
uv = record { name = 117 ∷ 118 ∷ []; width = 2; rule = Mix }

-- a layer `m` of one number that is copied
abbrev pub material : Layer
material = record { name = 109 ∷ []; width = 1; rule = Copy }

-- both layers, at two places
abbrev pub small : LayerTable
small = record {
  layers = uv ∷ material ∷ [];
  rows = (pos 0 ∷ pos 10 ∷ pos 3 ∷ []) ∷ (pos 5 ∷ negsuc 4 ∷ pos 7 ∷ []) ∷ [];
}

-- halfway between its rows, the first layer is mixed and the second has the first row's number
abbrev pub SmallMix : Type 0
SmallMix =
    (mix_row small.layers (row_of small 0) (row_of small 1) (pos 1) (pos 2) ≡ pos 2 ∷ pos 2 ∷ pos 3 ∷ [])
    × (mix_row small.layers (row_of small 1) (row_of small 0) (pos 1) (pos 2) ≡ pos 2 ∷ pos 2 ∷ pos 7 ∷ [])
    × (mix_row small.layers (row_of small 0) (row_of small 1) (pos 1) (pos 1) ≡ pos 5 ∷ negsuc 4 ∷ pos 3 ∷ [])

-- layers by name, and how wide a row is
abbrev pub SmallLayers : Type 0
SmallLayers =
    (total small.layers ≡ 3) × (find_layer small.layers (109 ∷ []) ≡ Some 1)
    × (find_layer small.layers (117 ∷ 118 ∷ []) ≡ Some 0)
    × (find_layer small.layers (117 ∷ []) ≡ None)

-- the rows of both places
abbrev pub first_row : List ℤ
first_row = pos 0 ∷ pos 10 ∷ pos 3 ∷ []

abbrev pub second_row : List ℤ
second_row = pos 5 ∷ negsuc 4 ∷ pos 7 ∷ []

-- a layer `n` of two numbers that are mixed
abbrev pub normal : Layer
normal = record { name = 110 ∷ []; width = 2; rule = Mix }

-- a row written, a place more, a layer more
abbrev pub SmallChanges : Type 0
SmallChanges =
    ((with_row small 1 (pos 8 ∷ pos 9 ∷ pos 1 ∷ [])).rows ≡ first_row ∷ (pos 8 ∷ pos 9 ∷ pos 1 ∷ []) ∷ [])
    × ((with_places small 3).rows ≡ first_row ∷ second_row ∷ (pos 0 ∷ pos 0 ∷ pos 0 ∷ []) ∷ [])
    × (with_places small 1 ≡ small)
    × ((with_layer small normal).rows ≡ (first_row ++ pos 0 ∷ pos 0 ∷ []) ∷ (second_row ++ pos 0 ∷ pos 0 ∷ []) ∷ [])

-- names and widths at their bounds
abbrev pub BoundsOfNames : Type 0
BoundsOfNames =
    (map is_layer_name ([] ∷ replicate 1 33 ∷ replicate 63 126 ∷ []) ≡ false ∷ true ∷ true ∷ [])
    × (map is_layer_name (replicate 64 97 ∷ (97 ∷ 32 ∷ []) ∷ (97 ∷ 127 ∷ []) ∷ []) ≡ false ∷ false ∷ false ∷ [])
    × (map is_width (0 ∷ 1 ∷ 4 ∷ 5 ∷ []) ≡ false ∷ true ∷ true ∷ false ∷ [])

-- the first cause is answered
abbrev pub FirstCause : Type 0
FirstCause =
    (refusal_of (replicate 16 uv) [] 5 ≡ Some BadName)
    × (refusal_of (replicate 16 uv) (117 ∷ 118 ∷ []) 5 ≡ Some BadWidth)
    × (refusal_of (replicate 16 uv) (117 ∷ 118 ∷ []) 2 ≡ Some LayerExists)
    × (refusal_of (replicate 16 uv) (109 ∷ []) 1 ≡ Some TooManyLayers)
    × (refusal_of (replicate 15 uv) (109 ∷ []) 1 ≡ None)

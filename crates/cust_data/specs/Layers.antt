-- Layers of values, and a row of numbers at each place.
use Rattle.std.specs.Prelude.{◌≡◌, ◌≤◌, ◌-◌, ◌&&◌, ℕ, ℤ, pos, Bool, false, IsTrue, nat_eq, nat_le, List, [], ◌∷◌, ◌++◌, length, map, replicate, slice_set, slice_index_or, position, sum_by, All, AllPairs}
use Rattle.std.specs.List.{list_all}
use Rattle.std.specs.declared.option.Option.{Option}
use lib.Pointwise.{pointwise}
use Rattle.cust_data.specs.declared.rule.Rule.{Rule}

-- a layer: its name in bytes, how many numbers it gives each place, and how these are mixed
pub record Layer : Type 0 where
  pub name : List ℕ
  pub width : ℕ
  pub rule : Rule

-- the layers in order, and for each place one row of numbers, layer after layer
pub record LayerTable : Type 0 where
  pub layers : List Layer
  pub rows : List (List ℤ)

-- how many numbers a row has: the sum of the widths
abbrev pub total : List Layer → ℕ
total layers = sum_by (λ (l : Layer). l.width) layers

-- two names are the same bytes
abbrev pub same_name : List ℕ → List ℕ → Bool
same_name a b = pointwise nat_eq a b

-- the position of the layer of a name
abbrev pub find_layer : List Layer → List ℕ → Option ℕ
find_layer layers name = position (λ (l : Layer). same_name l.name name) layers

-- a name has 1 to 63 bytes, each between 33 and 126
abbrev pub is_layer_name : List ℕ → Bool
is_layer_name name =
    nat_le 1 (length name) && nat_le (length name) 63 && list_all (λ b. nat_le 33 b && nat_le b 126) name

-- a width is 1 to 4
abbrev pub is_width : ℕ → Bool
is_width width = nat_le 1 width && nat_le width 4

-- so many zeros
abbrev pub zeros : ℕ → List ℤ
zeros n = replicate n (pos 0)

-- the row at a place
abbrev pub row_of : LayerTable → ℕ → List ℤ
row_of t place = slice_index_or t.rows place []

-- the table with the row at a place replaced
abbrev pub with_row : LayerTable → ℕ → List ℤ → LayerTable
with_row t place row = record t { rows = slice_set t.rows place row }

-- the table with rows of zeros behind the others, until there are so many
abbrev pub with_places : LayerTable → ℕ → LayerTable
with_places t places = record t { rows = t.rows ++ replicate (places - length t.rows) (zeros (total t.layers)) }

-- the table with a layer behind the others, whose numbers are 0
abbrev pub with_layer : LayerTable → Layer → LayerTable
with_layer t layer = record {
  layers = t.layers ++ layer ∷ [];
  rows = map (λ row. row ++ zeros layer.width) t.rows;
}

-- what holds of the layers of every layer set: at most sixteen, with names and widths that are allowed, no name twice
pub record AreLayers (layers : List Layer) : Type 0 where
  pub few : length layers ≤ 16
  pub named : All (λ (l : Layer). IsTrue (is_layer_name l.name)) layers
  pub distinct : AllPairs (λ (k l : Layer). same_name k.name l.name ≡ false) layers
  pub widths : All (λ (l : Layer). IsTrue (is_width l.width)) layers

-- what holds of the table of every layer set: its layers are allowed, and each row has a number for each of theirs
pub record IsTable (t : LayerTable) : Type 0 where
  pub layers : AreLayers t.layers
  pub fitted : All (λ (row : List ℤ). length row ≡ total t.layers) t.rows

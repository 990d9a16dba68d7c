-- How a layer set is kept: a column of cells for each layer.
use Rattle.std.specs.Prelude.{◌≡◌, ◌≤◌, ℕ, ℤ, List, [], ◌∷◌, ◌++◌, length, map, take, drop, All}
use Rattle.std.specs.List.{flat_map, range_with_len}
use Rattle.cust_data.specs.Layers.{Layer, LayerTable, AreLayers, zeros}
use Rattle.cust_data.specs.Filled.{Filled, cell_at, with_cell, grown}

-- the layers of columns
abbrev pub layers_of : List Filled → List Layer
layers_of columns = map (λ (c : Filled). c.layer) columns

-- the row at a place, cell after cell
abbrev pub row_at : List Filled → ℕ → List ℤ
row_at columns place = flat_map (λ (c : Filled). cell_at c place) columns

-- the rows of so many places
abbrev pub rows_of : List Filled → ℕ → List (List ℤ)
rows_of columns places = map (row_at columns) (range_with_len 0 places)

-- the table that columns stand for
abbrev pub table_of : List Filled → ℕ → LayerTable
table_of columns places = record { layers = layers_of columns; rows = rows_of columns places }

-- a column has a cell for each place; each cell is as wide as the layer, and those past the places are zeros
pub record IsFilled (places : ℕ) (c : Filled) : Type 0 where
  pub long : places ≤ length c.cells
  pub wide : (k : ℕ) → length (cell_at c k) ≡ c.layer.width
  pub spare : (k : ℕ) → places ≤ k → cell_at c k ≡ zeros c.layer.width

-- what holds of the columns of a layer set
pub record ColumnsHold (columns : List Filled) (places : ℕ) : Type 0 where
  pub filled : All (IsFilled places) columns
  pub layers : AreLayers (layers_of columns)

-- the cell of each column at a place is as wide as its layer
abbrev pub AreWide : List Filled → ℕ → Type 0
AreWide columns place = All (λ (c : Filled). length (cell_at c place) ≡ c.layer.width) columns

-- the columns with a row at a place, cell after cell
abbrev pub put_row : List Filled → ℕ → List ℤ → List Filled
put_row [] place row = []
put_row (c ∷ columns) place row =
    with_cell c place (take c.layer.width row) ∷ put_row columns place (drop c.layer.width row)

-- the columns, of which the first i are grown
abbrev pub grown_front : ℕ → ℕ → List Filled → List Filled
grown_front places i columns = map (grown places) (take i columns) ++ drop i columns

-- A layer with its numbers: a cell for each place.
use Rattle.std.specs.Prelude.{ℕ, ◌-◌, ℤ, List, ◌++◌, length, replicate, slice_index_or, slice_set}
use Rattle.cust_data.specs.Layers.{Layer, zeros}

-- a layer with its cells
pub record Filled : Type 0 where
  pub layer : Layer
  pub cells : List (List ℤ)

-- the cell at a place; zeros where none is kept
abbrev pub cell_at : Filled → ℕ → List ℤ
cell_at c place = slice_index_or c.cells place (zeros c.layer.width)

-- the layer with its cells replaced
abbrev pub with_cells : Filled → List (List ℤ) → Filled
with_cells c cells = record c { cells = cells }

-- the layer with the cell at a place replaced
abbrev pub with_cell : Filled → ℕ → List ℤ → Filled
with_cell c place cell = with_cells c (slice_set c.cells place cell)

-- the layer with cells of zeros behind the others, until there are so many
abbrev pub grown : ℕ → Filled → Filled
grown places c = with_cells c (c.cells ++ replicate (places - length c.cells) (zeros c.layer.width))

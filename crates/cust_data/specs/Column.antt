-- What holds of the cells of a column.
use Rattle.std.specs.Prelude.{◌≡◌, ℕ, ℤ, IsTrue, List, length, All}
use Rattle.cust_data.specs.Layers.{is_width}

-- a width is allowed, and each cell has it
pub record ColumnHolds (width : ℕ) (cells : List (List ℤ)) : Type 0 where
  pub allowed : IsTrue (is_width width)
  pub wide : All (λ (cell : List ℤ). length cell ≡ width) cells

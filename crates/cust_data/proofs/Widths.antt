-- Widths of cells.
use Rattle.std.proofs.Common.{◌≡◌, ℕ, ◌≤◌, ◌<◌, ℤ, List, length, get_or, set, arith, IsTrue, ◌∙◌, ◌*◌, ap}
use Rattle.std.proofs.lemmas.List.Elements.{All-set}
use Rattle.std.proofs.lemmas.Bool.Decides.{nat_tests}
use Rattle.cust_data.specs.Layers.{is_width}
use Rattle.cust_data.specs.Column.{ColumnHolds}

-- a width is 1 to 4
pub width_bounds : (n : ℕ) → IsTrue (is_width n) → (1 ≤ n) × (n ≤ 4)
width_bounds n h = grind (arith, nat_tests)

-- a cell of such a width is small
pub cell_small : (n : ℕ) → IsTrue (is_width n) → n * 8 < 9223372036854775808
cell_small n h = omega (arith, width_bounds n h)

-- a cell of the width is written
pub holds-set : (n : ℕ) (cells : List (List ℤ)) (place : ℕ) (cell : List ℤ) → ColumnHolds n cells → length cell ≡ n
    → ColumnHolds n (set cells place cell)
holds-set n cells place cell h wide = record {
  allowed = h.allowed;
  wide = All-set (λ (c : List ℤ). length c ≡ n) cells place cell wide h.wide;
}

-- a cell that was read is wide
pub wide_read : (n : ℕ) (cells : List (List ℤ)) (place : ℕ) (cell : List ℤ) → ColumnHolds n cells → place < length cells
    → cell ≡ get_or cells place cell → length cell ≡ n
wide_read n cells place cell h in_range read = ap length read ∙ h.wide place cell in_range

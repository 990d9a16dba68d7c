use Rattle.std.proofs.Common.{◌≡◌, ℕ, ◌<◌, false, get_or}
use Rattle.cust_data.specs.Layers.{same_name}
use Rattle.cust_data.specs.Filled.{Filled}
use Rattle.cust_data.proofs.cell_rows.find_column.Given as goal

abbrev pub invariant-loop-k : goal.invariant-loop-k
invariant-loop-k l = (j : ℕ) (d : Filled) → j < l.k → same_name (get_or l.columns j d).layer.name l.name ≡ false

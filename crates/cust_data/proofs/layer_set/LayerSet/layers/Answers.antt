use Rattle.std.proofs.Common.{subst}
use Rattle.cust_data.specs.Layers.{IsTable}
use Rattle.cust_data.proofs.Columns.{is_table}
use Rattle.cust_data.proofs.layer_set.LayerSet.layers.Goals as goal

-- the columns make a table
pub returns-clause-table : goal.returns-clause-table
returns-clause-table c = subst IsTable c.self.view_is (is_table c.self.inside.columns.items c.self.inside.places
    c.self.invariant)

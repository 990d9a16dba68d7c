use Rattle.std.proofs.Common.{sym, subst}
use Rattle.cust_data.specs.Layers.{IsTable}
use Rattle.cust_data.proofs.Columns.{is_table}
use Rattle.cust_data.proofs.Written.{places_is}
use Rattle.cust_data.proofs.layer_set.LayerSet.places.Goals as goal

-- as many rows as places
pub returns-clause-places : goal.returns-clause-places
returns-clause-places c = sym (places_is c.self.inside.columns.items c.self.inside.places c.args.self.now
    c.self.view_is)

pub returns-clause-table : goal.returns-clause-table
returns-clause-table c = subst IsTable c.self.view_is (is_table c.self.inside.columns.items c.self.inside.places
    c.self.invariant)

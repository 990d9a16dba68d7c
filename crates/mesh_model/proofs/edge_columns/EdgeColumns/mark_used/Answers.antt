use Rattle.std.proofs.Common.{◌<◌, arith}
use Rattle.mesh_model.proofs.FlatTables.{there-within, edge_table-mark, used-mark}
use Rattle.mesh_model.proofs.edge_columns.EdgeColumns.mark_used.Goals as goal

pub index_mut-requires : goal.index_mut-requires
index_mut-requires c =
    let less : c.args.name < c.self.inside.count = there-within _ _ _ (rw (← c.self.view_is) at c.requires) in
    let few = c.self.invariant.few in
    omega arith

pub returns-clause-same : goal.returns-clause-same
returns-clause-same c =
    let old = c.self.inside in
    rw (← c.self.view_is)
    (edge_table-mark old.states.items old.ends.items old.values.rows old.values.layers old.count c.args.name
    c.self.invariant (rw (← c.self.view_is) at c.requires))

pub returns-clause-used : goal.returns-clause-used
returns-clause-used c =
    let old = c.self.inside in
    rw (← c.self.view_is)
    (used-mark old.states.items old.count c.args.name c.self.invariant.few
    (there-within _ _ _ (rw (← c.self.view_is) at c.requires)))

use Rattle.std.proofs.Common.{◌<◌, arith, rules}
use Rattle.mesh_model.proofs.FlatTables.{there-within, number-edge}
use Rattle.mesh_model.proofs.edge_columns.EdgeColumns.value.Goals as goal

pub value-requires-clause-place : goal.value-requires-clause-place
value-requires-clause-place c =
    let less : c.args.name < c.self.inside.count = there-within _ _ _ (rw (← c.self.view_is) at c.requires.there) in
    let few = c.self.invariant.few in
    let valued = c.self.invariant.valued in
    omega arith

pub returns : goal.returns
returns c =
    let old = c.self.inside in
    let read = number-edge old.states.items old.ends.items old.values.rows old.count c.args.name c.args.k c.value.result
    c.self.invariant (rw (← c.self.view_is) at c.requires.there) c.value.ensures in
    rw (← c.self.view_is) (search (rules, read))

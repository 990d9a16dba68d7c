use Rattle.std.proofs.Common.{◌<◌, ap, arith}
use Rattle.std.specs.Option.{option_map}
use Rattle.mesh_model.specs.declared.edge_columns.Ends.{Ends}
use Rattle.mesh_model.specs.declared.records.EdgeRec.{EdgeRec}
use Rattle.mesh_model.proofs.FlatTables.{there-within, stands-edge}
use Rattle.mesh_model.proofs.edge_columns.EdgeColumns.ends.Goals as goal

pub index-requires : goal.index-requires
index-requires c =
    let less : c.args.name < c.self.inside.count = there-within _ _ _ (rw (← c.self.view_is) at c.requires) in
    let few = c.self.invariant.few in
    let placed = c.self.invariant.placed in
    omega arith

pub returns : goal.returns
returns c =
    let old = c.self.inside in
    let ends_of : EdgeRec → Ends = λ r. record { a = r.a; b = r.b } in
    rw (← c.self.view_is)
    (ap (option_map ends_of)
    (stands-edge old.states.items old.ends.items old.values.rows old.count c.args.name c.index.result.now
    c.self.invariant (rw (← c.self.view_is) at c.requires) c.index.ensures))

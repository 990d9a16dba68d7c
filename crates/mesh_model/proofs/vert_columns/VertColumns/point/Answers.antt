use Rattle.std.proofs.Common.{◌<◌, ap, arith}
use Rattle.std.specs.Option.{option_map}
use Rattle.mesh_model.specs.declared.records.VertRec.{VertRec}
use Rattle.mesh_model.proofs.FlatTables.{there-within, stands-vert}
use Rattle.mesh_model.proofs.vert_columns.VertColumns.point.Goals as goal

pub index-requires : goal.index-requires
index-requires c =
    let less : c.args.name < c.self.inside.count = there-within _ _ _ (rw (← c.self.view_is) at c.requires) in
    let few = c.self.invariant.few in
    let placed = c.self.invariant.placed in
    omega arith

pub returns : goal.returns
returns c =
    let old = c.self.inside in
    rw (← c.self.view_is)
    (ap (option_map (λ (r : VertRec). r.point))
    (stands-vert old.there.items old.points.items old.values.rows old.count c.args.name c.index.result.now
    c.self.invariant (rw (← c.self.view_is) at c.requires) c.index.ensures))

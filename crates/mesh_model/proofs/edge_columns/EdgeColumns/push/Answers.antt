use Rattle.std.proofs.Common.{◌≡◌, ◌<◌, ◌-◌, length, arith}
use Rattle.mesh_model.proofs.Tables.{length-table_of}
use Rattle.mesh_model.proofs.FlatTables.{edge_table-push}
use Rattle.mesh_model.proofs.edge_columns.EdgeColumns.push.Goals as goal

pub overflow_add-self : goal.overflow_add-self
overflow_add-self c =
    let long : length c.args.self.now.table ≡ c.self.inside.count = rw (← c.self.view_is) (length-table_of _ _) in
    let fits = c.requires.fits in
    omega arith

pub returns : goal.returns
returns c =
    let old = c.self.inside in
    let room : 0 < length old.states.items - old.count = rw (← c.self.view_is) at c.requires.room in
    rw (
      c.set_row.ensures,
      ← c.self.view_is,
    ) (edge_table-push old.states.items old.ends.items old.values.rows old.values.layers old.count
    c.args.ends c.args.row.now c.self.invariant room)

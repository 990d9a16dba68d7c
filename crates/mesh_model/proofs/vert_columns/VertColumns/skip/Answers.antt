use Rattle.std.proofs.Common.{◌≡◌, ◌<◌, ◌-◌, length, arith}
use Rattle.mesh_model.proofs.Tables.{length-table_of}
use Rattle.mesh_model.proofs.FlatTables.{vert_table-skip}
use Rattle.mesh_model.proofs.vert_columns.VertColumns.skip.Goals as goal

pub overflow_add-self : goal.overflow_add-self
overflow_add-self c =
    let long : length c.args.self.now.table ≡ c.self.inside.count = rw (← c.self.view_is) (length-table_of _ _) in
    let fits = c.requires.fits in
    omega arith

pub returns : goal.returns
returns c =
    let old = c.self.inside in
    let room : 0 < length old.there.items - old.count = rw (← c.self.view_is) at c.requires.room in
    rw (← c.self.view_is)
    (vert_table-skip old.there.items old.points.items old.values.rows old.values.layers old.count room)

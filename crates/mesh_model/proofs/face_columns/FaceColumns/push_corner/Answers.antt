use Rattle.std.proofs.Common.{◌<◌, ◌-◌, length, arith}
use Rattle.mesh_model.proofs.FlatFaces.{face_table-corner, sum-faces, length-open}
use Rattle.mesh_model.proofs.face_columns.FaceColumns.push_corner.Goals as goal

pub overflow_add-self : goal.overflow_add-self
overflow_add-self c =
    let old = c.self.inside in
    let fits = rw (
      ← c.self.view_is,
      sum-faces old.ends.items old.sides.items old.corner_values.rows old.values.rows old.count old.corner_count
          c.self.invariant,
      length-open old.ends.items old.sides.items old.corner_values.rows old.values.rows old.count
          old.corner_count c.self.invariant,
    ) at c.requires.fits in
    let last = c.self.invariant.last in
    omega arith

pub returns : goal.returns
returns c =
    let old = c.self.inside in
    let room : 0 < length old.sides.items - old.corner_count = rw (← c.self.view_is) at c.requires.room in
    rw (
      c.set_row.ensures,
      ← c.self.view_is,
    ) (face_table-corner old.ends.items old.sides.items old.corner_values.rows old.values.rows
    old.corner_values.layers old.values.layers old.count old.corner_count c.args.side c.args.row.now
    c.self.invariant room)

use Rattle.std.proofs.Common.{◌≡◌, ◌<◌, ◌-◌, length, arith, refl}
use Rattle.mesh_model.proofs.Tables.{length-table_of}
use Rattle.mesh_model.proofs.FlatFaces.{face_table-skip, AreFaceColumns-close}
use Rattle.mesh_model.proofs.face_columns.FaceColumns.skip.Goals as goal

pub overflow_add-self : goal.overflow_add-self
overflow_add-self c =
    let long : length c.args.self.now.table ≡ c.self.inside.count = rw (← c.self.view_is) (length-table_of _ _) in
    let fits = c.requires.fits in
    omega arith

pub invariant_of-self : goal.invariant_of-self
invariant_of-self c =
    let old = c.self.inside in
    let room : 0 < length old.ends.items - old.count = rw (← c.self.view_is) at c.requires.room in
    AreFaceColumns-close old.ends.items old.sides.items old.corner_values.rows old.values.rows old.values.rows old.count
    old.corner_count c.self.invariant (omega arith) refl

pub returns : goal.returns
returns c =
    let old = c.self.inside in
    let room : 0 < length old.ends.items - old.count = rw (← c.self.view_is) at c.requires.room in
    rw (← c.self.view_is)
    (face_table-skip old.ends.items old.sides.items old.corner_values.rows old.values.rows old.corner_values.layers
    old.values.layers old.count old.corner_count c.self.invariant room (rw (← c.self.view_is) at c.requires.none))

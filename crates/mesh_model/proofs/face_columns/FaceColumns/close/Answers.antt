use Rattle.std.proofs.Common.{◌≡◌, ◌<◌, ◌-◌, List, ℤ, [], length, arith, set}
use Rattle.std.proofs.lemmas.List.{length-set, get_or-set_same, get_or-set_other}
use Rattle.mesh_model.proofs.Tables.{length-table_of}
use Rattle.mesh_model.proofs.FlatFaces.{face_table-close, AreFaceColumns-close}
use Rattle.mesh_model.proofs.face_columns.FaceColumns.close.Goals as goal

pub overflow_add-self : goal.overflow_add-self
overflow_add-self c =
    let long : length c.args.self.now.table ≡ c.self.inside.count = rw (← c.self.view_is) (length-table_of _ _) in
    let fits = c.requires.fits in
    omega arith

pub invariant_of-self : goal.invariant_of-self
invariant_of-self c =
    let old = c.self.inside in
    let room : 0 < length old.ends.items - old.count = rw (← c.self.view_is) at c.requires.room in
    rw c.set_row.ensures (AreFaceColumns-close old.ends.items old.sides.items old.corner_values.rows old.values.rows
    (set old.values.rows old.count c.args.row.now) old.count old.corner_count c.self.invariant (omega arith)
    (length-set old.values.rows old.count c.args.row.now))

pub returns : goal.returns
returns c =
    let old = c.self.inside in
    let room : 0 < length old.ends.items - old.count = rw (← c.self.view_is) at c.requires.room in
    let valued = c.self.invariant.valued in
    let row : List ℤ = c.args.row.now in
    rw (
      c.set_row.ensures,
      ← c.self.view_is,
    ) (face_table-close old.ends.items old.sides.items old.corner_values.rows old.values.rows
    (set old.values.rows old.count row)
    old.corner_values.layers old.values.layers old.count old.corner_count row c.self.invariant room
    (λ k less. get_or-set_other old.values.rows old.count k row [] (λ e. absurd (omega arith)))
    (get_or-set_same old.values.rows old.count row [] (omega arith)))

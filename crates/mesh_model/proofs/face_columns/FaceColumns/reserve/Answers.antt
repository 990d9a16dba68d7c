use Rattle.std.proofs.Common.{[], refl, arith}
use Rattle.mesh_model.proofs.FlatTables.{kept-more}
use Rattle.mesh_model.proofs.FlatFaces.{face_table-grown}
use Rattle.mesh_model.proofs.face_columns.FaceColumns.reserve.Goals as goal

pub returns-in_ok-resize-clause-same : goal.returns-in_ok-resize-clause-same
returns-in_ok-resize-clause-same c =
    let old = c.self.inside in
    let few = c.self.invariant.few in
    let valued = c.self.invariant.valued in
    rw (← c.self.view_is, c.in_ok-reserve.ensures.ok)
    (face_table-grown old.ends.items c.resize.new.self.items old.sides.items old.sides.items old.corner_values.rows
    old.corner_values.rows old.values.rows _ old.corner_values.layers old.values.layers old.count old.corner_count
    c.self.invariant
    (λ k less. c.in_ok-resize.ensures.by_index.0 k 0 (omega arith) (omega arith)) refl
    (λ k less. kept-more old.values.rows _ old.count k [] (omega arith) less))

pub returns-in_err-resize-clause-same : goal.returns-in_err-resize-clause-same
returns-in_err-resize-clause-same c =
    let old = c.self.inside in
    let few = c.self.invariant.few in
    let valued = c.self.invariant.valued in
    rw (← c.self.view_is, c.in_ok-reserve.ensures.ok, c.in_err-resize.ensures.items)
    (face_table-grown old.ends.items old.ends.items old.sides.items old.sides.items old.corner_values.rows
    old.corner_values.rows old.values.rows _ old.corner_values.layers old.values.layers old.count old.corner_count
    c.self.invariant
    (λ k less. refl) refl (λ k less. kept-more old.values.rows _ old.count k [] (omega arith) less))

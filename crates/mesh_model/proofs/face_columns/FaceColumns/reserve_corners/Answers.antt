use Rattle.std.proofs.Common.{◌≡◌, ◌+◌, length, refl, arith}
use Rattle.mesh_model.proofs.FlatTables.{kept-more, enough-places, more-places}
use Rattle.mesh_model.proofs.FlatFaces.{face_table-grown, take-corners_at}
use Rattle.mesh_model.proofs.face_columns.FaceColumns.reserve_corners.Goals as goal

pub returns-in_ok-resize-clause-same : goal.returns-in_ok-resize-clause-same
returns-in_ok-resize-clause-same c =
    let old = c.self.inside in
    let few = c.self.invariant.few_corners in
    let valued = c.self.invariant.corners_valued in
    let long : length c.resize.new.self.items ≡ old.corner_count + c.args.more =
    omega (arith, c.in_ok-resize.ensures.len) in
    rw (← c.self.view_is, c.in_ok-reserve.ensures.ok)
    (face_table-grown old.ends.items old.ends.items old.sides.items c.resize.new.self.items old.corner_values.rows _
    old.values.rows old.values.rows old.corner_values.layers old.values.layers old.count old.corner_count
    c.self.invariant
    (λ k less. refl)
    (take-corners_at old.sides.items c.resize.new.self.items old.corner_values.rows _ old.corner_count few
    (omega (arith, c.in_ok-resize.ensures.len)) valued (rw long (enough-places _ _ _))
    (λ k d less. c.in_ok-resize.ensures.by_index.0 k d (omega arith) (omega arith))
    (λ k d less. kept-more old.corner_values.rows _ old.corner_count k d (omega arith) less))
    (λ k less. refl))

pub returns-in_err-resize-clause-same : goal.returns-in_err-resize-clause-same
returns-in_err-resize-clause-same c =
    let old = c.self.inside in
    let few = c.self.invariant.few_corners in
    let valued = c.self.invariant.corners_valued in
    rw (← c.self.view_is, c.in_ok-reserve.ensures.ok, c.in_err-resize.ensures.items)
    (face_table-grown old.ends.items old.ends.items old.sides.items old.sides.items old.corner_values.rows _
    old.values.rows old.values.rows old.corner_values.layers old.values.layers old.count old.corner_count
    c.self.invariant
    (λ k less. refl)
    (take-corners_at old.sides.items old.sides.items old.corner_values.rows _ old.corner_count few few valued
    (more-places _ _ _ valued)
    (λ k d less. refl) (λ k d less. kept-more old.corner_values.rows _ old.corner_count k d (omega arith) less))
    (λ k less. refl))

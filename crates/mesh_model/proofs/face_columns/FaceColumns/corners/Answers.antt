use Rattle.std.proofs.Common.{arith}
use Rattle.mesh_model.proofs.FlatFaces.{sum-faces, length-open}
use Rattle.mesh_model.proofs.face_columns.FaceColumns.corners.Goals as goal

pub returns : goal.returns
returns c =
    let old = c.self.inside in
    let last = c.self.invariant.last in
    rw (
      ← c.self.view_is,
      sum-faces old.ends.items old.sides.items old.corner_values.rows old.values.rows old.count old.corner_count
          c.self.invariant,
      length-open old.ends.items old.sides.items old.corner_values.rows old.values.rows old.count
          old.corner_count c.self.invariant,
    ) (omega arith)

use Rattle.mesh_trail.proofs.Wide.{faces_wide}
use Rattle.mesh_trail.proofs.faces.FaceTable.rows_fit.Goals as goal

pub returns : goal.returns
returns c =
    let t = c.self.inside in
    rw (← c.self.view_is) (faces_wide t.spans.width t.corners.width t.corners.corners t.spans.names c.rows_fit.ensures
    c.rows_fit-2.ensures)

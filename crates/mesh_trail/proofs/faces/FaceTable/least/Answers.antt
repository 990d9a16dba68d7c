use Rattle.mesh_trail.specs.Kept.{face_of}
use Rattle.mesh_trail.proofs.MapNotes.{least-map_notes}
use Rattle.mesh_trail.proofs.faces.FaceTable.least.Goals as goal

pub returns : goal.returns
returns c = rw (← c.self.view_is) (least-map_notes (face_of c.self.inside.corners.corners) c.self.inside.spans.names
    c.args.least c.least.result c.least.ensures)

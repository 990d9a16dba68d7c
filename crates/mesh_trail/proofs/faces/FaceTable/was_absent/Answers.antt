use Rattle.std.proofs.Common.{sym, ◌∙◌}
use Rattle.mesh_trail.specs.Kept.{face_of}
use Rattle.mesh_trail.proofs.MapNotes.{absent-map_notes}
use Rattle.mesh_trail.proofs.faces.FaceTable.was_absent.Goals as goal

pub returns : goal.returns
returns c = rw (← c.self.view_is) (c.was_absent.ensures
    ∙ sym (absent-map_notes (face_of c.self.inside.corners.corners) c.self.inside.spans.names c.args.name))

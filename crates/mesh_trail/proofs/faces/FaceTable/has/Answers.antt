use Rattle.std.proofs.Common.{sym, ◌∙◌}
use Rattle.mesh_trail.specs.Kept.{face_of}
use Rattle.mesh_trail.proofs.MapNotes.{is_some-map_notes}
use Rattle.mesh_trail.proofs.faces.FaceTable.has.Goals as goal

pub returns : goal.returns
returns c = rw (← c.self.view_is) (c.has.ensures
    ∙ sym (is_some-map_notes (face_of c.self.inside.corners.corners) c.self.inside.spans.names c.args.name))

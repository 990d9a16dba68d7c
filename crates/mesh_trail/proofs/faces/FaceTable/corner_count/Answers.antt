use Rattle.std.proofs.Common.{sym, ◌∙◌}
use Rattle.mesh_trail.specs.Noted.{noted}
use Rattle.mesh_trail.specs.Kept.{face_of}
use Rattle.mesh_trail.proofs.MapNotes.{some-map_notes, mapped_none}
use Rattle.mesh_trail.proofs.FaceNotes.{face_count}
use Rattle.mesh_trail.proofs.faces.FaceTable.corner_count.Goals as goal

pub returns-in-Some : goal.returns-in-Some
returns-in-Some c =
    let t = c.self.inside in
    rw (← c.self.view_is) (face_count t.corners.corners t.corners.longest t.spans.names c.args.name c.in-Some.span
    c.self.invariant (sym c.body.ensures ∙ c.in-Some.is))

pub returns-in-None : goal.returns-in-None
returns-in-None c =
    let t = c.self.inside in
    mapped_none (λ r. r.0) (noted t.spans.names c.args.name) (sym c.body.ensures ∙ c.in-None.is)
    (some-map_notes (face_of t.corners.corners) t.spans.names c.args.name (rw (← c.self.view_is) at c.requires))

use Rattle.std.proofs.Common.{sym, ◌∙◌}
use Rattle.mesh_trail.specs.Noted.{noted}
use Rattle.mesh_trail.specs.Kept.{vert_of}
use Rattle.mesh_trail.proofs.MapNotes.{mapped-map_notes, some-map_notes, mapped_none}
use Rattle.mesh_trail.proofs.past.Past.point.Goals as goal

pub returns-in-Some : goal.returns-in-Some
returns-in-Some c = rw (← c.self.view_is) (mapped-map_notes vert_of (λ r. r.point) c.self.inside.verts.names c.args.v.0
    _ (sym c.body.ensures ∙ c.in-Some.is))

pub returns-in-None : goal.returns-in-None
returns-in-None c = mapped_none (λ r. r.0) (noted c.self.inside.verts.names c.args.v.0)
    (sym c.body.ensures ∙ c.in-None.is) (some-map_notes vert_of c.self.inside.verts.names c.args.v.0
    (rw (← c.self.view_is) at c.requires))

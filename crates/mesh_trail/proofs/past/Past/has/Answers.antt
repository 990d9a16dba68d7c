use Rattle.std.proofs.Common.{sym, ◌∙◌}
use Rattle.mesh_trail.specs.Kept.{vert_of, edge_of}
use Rattle.mesh_trail.proofs.MapNotes.{is_some-map_notes}
use Rattle.mesh_trail.proofs.past.Past.has.Goals as goal

pub returns-in-Vert : goal.returns-in-Vert
returns-in-Vert c = rw (← c.self.view_is, c.in-Vert.is) (c.has.ensures
    ∙ sym (is_some-map_notes vert_of c.self.inside.verts.names c.in-Vert.v.0))

pub returns-in-Edge : goal.returns-in-Edge
returns-in-Edge c = rw (← c.self.view_is, c.in-Edge.is) (c.has-in-Edge.ensures
    ∙ sym (is_some-map_notes edge_of c.self.inside.edges.names c.in-Edge.e.0))

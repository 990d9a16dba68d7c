use Rattle.std.proofs.Common.{sym, ◌∙◌}
use Rattle.mesh_trail.specs.Kept.{vert_of, edge_of}
use Rattle.mesh_trail.proofs.MapNotes.{len-map_notes}
use Rattle.mesh_trail.proofs.past.Past.entries.Goals as goal

pub returns-in-Verts : goal.returns-in-Verts
returns-in-Verts c = rw (← c.self.view_is, c.in-Verts.is) (c.len.ensures
    ∙ sym (len-map_notes vert_of c.self.inside.verts.names))

pub returns-in-Edges : goal.returns-in-Edges
returns-in-Edges c = rw (← c.self.view_is, c.in-Edges.is) (c.len-in-Edges.ensures
    ∙ sym (len-map_notes edge_of c.self.inside.edges.names))

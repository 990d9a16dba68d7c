use Rattle.std.proofs.Common.{Some, None}
use Rattle.mesh_trail.specs.Kept.{vert_of}
use Rattle.mesh_trail.proofs.MapNotes.{least-map_notes}
use Rattle.mesh_trail.proofs.past.Past.vert_from.Goals as goal

pub returns-in-Some : goal.returns-in-Some
returns-in-Some c = rw (← c.self.view_is) (least-map_notes vert_of c.self.inside.verts.names c.args.least
    (Some c.in-Some.n) (rw c.in-Some.is at c.least.ensures))

pub returns-in-None : goal.returns-in-None
returns-in-None c = rw (← c.self.view_is) (least-map_notes vert_of c.self.inside.verts.names c.args.least None
    (rw c.in-None.is at c.least.ensures))

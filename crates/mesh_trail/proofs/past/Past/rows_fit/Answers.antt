use Rattle.std.proofs.Common.{◌≡◌, length, ap}
use Rattle.mesh_trail.specs.Noted.{record_in}
use Rattle.mesh_trail.specs.Kept.{vert_of, edge_of}
use Rattle.mesh_trail.proofs.Wide.{each_read}
use Rattle.mesh_trail.proofs.past.Past.rows_fit.Goals as goal

pub returns : goal.returns
returns c =
    let p = c.self.inside in
    rw (← c.self.view_is) (record {
      verts = each_read vert_of (λ r. length r.vals ≡ p.verts.width) p.verts.names
          (λ q a at_q. c.rows_fit.ensures q a (ap record_in at_q));
      edges = each_read edge_of (λ r. length r.vals ≡ p.edges.width) p.edges.names
          (λ q a at_q. c.rows_fit-2.ensures q a (ap record_in at_q));
      faces = c.rows_fit-3.ensures;
    })

use Rattle.mesh_trail.proofs.past.Past.trim.Goals as goal

pub returns-clause-changes : goal.returns-clause-changes
returns-clause-changes g c =
    let p = c.self.inside in
    rw (← c.self.view_is) (λ i. record {
      verts = c.trim_verts.ensures.names i;
      edges = c.trim_edges.ensures.names i;
      faces = c.trim.ensures.names i;
      next = record { verts = p.next_vert; edges = p.next_edge; faces = p.next_face };
    })

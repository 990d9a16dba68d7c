use Rattle.std.proofs.Common.{◌≡◌, ap}
use Rattle.mesh_model.specs.Complex.{corner_sum}
use Rattle.bmesh_run.proofs.write.report.element_counts.Goals as goal

pub returns : goal.returns
returns c =
    let corners : c.counters-corners.result.corners ≡ corner_sum c.args.session.now.state.now.faces =
    ap (λ k. k.corners) c.counters-corners.ensures.counters in
    rw (
      ← c.vert_count-verts.ensures,
      ← c.edge_count-edges.ensures,
      ← c.face_count-faces.ensures,
      ← corners,
    ) c.in_ok-text.ensures.ok

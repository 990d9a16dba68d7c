use Rattle.std.proofs.Common.{ap, sym, subst, ◌∙◌, List, All}
use Rattle.mesh_model.specs.Table.{IsThere}
use Rattle.mesh_model.specs.Elements.{Elements}
use Rattle.mesh_model.specs.declared.names.EdgeName.{EdgeName}
use Rattle.mesh_core.specs.Seen.{now}
use Rattle.mesh_passes.specs.Killing.{without_set}
use Rattle.mesh_model.proofs.Deletings.{AreClosed-valid}
use Rattle.op_basic.specs.Deleting.{without_boundary}
use Rattle.op_basic.proofs.Deletions.{live_inside, rising_inside}
use Rattle.op_basic.proofs.deleting.kill_inside.Goals as goal

pub inner_edges-requires : goal.inner_edges-requires
inner_edges-requires c =
    subst (λ (es : List EdgeName). All (λ (e : EdgeName). IsThere (now c.args.mesh.now).edges e.0) es)
    (sym c.edges.ensures.names) c.in_ok-set.ensures.live.edges

pub kill_parts-requires-clause-closed : goal.kill_parts-requires-clause-closed
kill_parts-requires-clause-closed c = AreClosed-valid (now c.args.mesh.now) c.requires.valid

pub kill_parts-requires-clause-live : goal.kill_parts-requires-clause-live
kill_parts-requires-clause-live c =
    rw (c.verts.ensures.names, c.faces.ensures.names, c.deref.ensures.value, c.in_ok-edges.ensures, c.edges.ensures.names)
    (live_inside (now c.args.mesh.now) c.in_ok-set.set c.in_ok-set.ensures.live)

pub kill_parts-requires-clause-rising : goal.kill_parts-requires-clause-rising
kill_parts-requires-clause-rising c =
    rw (c.verts.ensures.names, c.faces.ensures.names, c.deref.ensures.value, c.in_ok-edges.ensures, c.edges.ensures.names)
    (rising_inside (now c.args.mesh.now) c.in_ok-set.set c.verts.ensures.rising c.edges.ensures.rising
    c.faces.ensures.rising)

pub returns-clause-now : goal.returns-clause-now
returns-clause-now c = c.in_ok-kill_parts.ensures.now
    ∙ rw (
      c.verts.ensures.names,
      c.faces.ensures.names,
      c.deref.ensures.value,
      c.in_ok-edges.ensures,
      c.edges.ensures.names,
    ) (ap (λ (s : Elements). without_set (now c.args.mesh.now)
    (without_boundary (now c.args.mesh.now) s)) c.in_ok-set.ensures.closure)

use Rattle.std.proofs.Common.{refl, ◌∙◌}
use Rattle.mesh_passes.proofs.SetParts.{rising_all}
use Rattle.mesh_passes.proofs.kills.kill_set.Goals as goal

pub kill_parts-requires-clause-live : goal.kill_parts-requires-clause-live
kill_parts-requires-clause-live c =
    rw (c.verts.ensures.names, c.edges.ensures.names, c.faces.ensures.names) c.requires.live

pub kill_parts-requires-clause-rising : goal.kill_parts-requires-clause-rising
kill_parts-requires-clause-rising c =
    rw (c.verts.ensures.names, c.edges.ensures.names, c.faces.ensures.names)
    (rising_all c.args.set.now.verts c.args.set.now.edges c.args.set.now.faces c.verts.ensures.rising
    c.edges.ensures.rising c.faces.ensures.rising)

pub returns-clause-now : goal.returns-clause-now
returns-clause-now c = c.in_ok-kill_parts.ensures.now
    ∙ rw (c.verts.ensures.names, c.edges.ensures.names, c.faces.ensures.names) refl

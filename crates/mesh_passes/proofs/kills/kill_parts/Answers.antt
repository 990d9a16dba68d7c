use Rattle.std.proofs.Common.{◌≡◌, get_or, ap, ◌∙◌}
use Rattle.mesh_model.specs.Complex.{Complex}
use Rattle.mesh_model.specs.Elements.{Elements}
use Rattle.mesh_model.specs.Kernel.{can_lose_vert}
use Rattle.mesh_core.specs.Seen.{now}
use Rattle.mesh_passes.specs.Killing.{without_faces, without_loose, without_bare}
use Rattle.mesh_passes.proofs.KilledParts.{set_spare}
use Rattle.mesh_passes.proofs.SetParts.{rising_verts, rising_edges, rising_faces, edges_without_faces}
use Rattle.mesh_passes.proofs.SetParts.{verts_without_faces, verts_without_loose}
use Rattle.mesh_passes.proofs.kills.kill_parts.Goals as goal

pub kill_faces-requires-clause-rising : goal.kill_faces-requires-clause-rising
kill_faces-requires-clause-rising c =
    rising_faces (record { verts = c.args.verts.now; edges = c.args.edges.now; faces = c.args.faces.now })
    c.requires.rising

pub kill_loose-requires-clause-live : goal.kill_loose-requires-clause-live
kill_loose-requires-clause-live c =
    edges_without_faces (now c.args.mesh.now) (now c.kill_faces.new.mesh) c.args.faces.now c.args.edges.now
    c.in_ok-kill_faces.ensures.now c.requires.live.edges

pub kill_loose-requires-clause-rising : goal.kill_loose-requires-clause-rising
kill_loose-requires-clause-rising c =
    rising_edges (record { verts = c.args.verts.now; edges = c.args.edges.now; faces = c.args.faces.now })
    c.requires.rising

pub kill_bare-requires-clause-live : goal.kill_bare-requires-clause-live
kill_bare-requires-clause-live c =
    verts_without_loose (now c.kill_faces.new.mesh) (now c.kill_loose.new.mesh) c.args.edges.now c.args.verts.now
    c.in_ok-kill_loose.ensures.now
    (verts_without_faces (now c.args.mesh.now) (now c.kill_faces.new.mesh) c.args.faces.now c.args.verts.now
    c.in_ok-kill_faces.ensures.now c.requires.live.verts)

pub kill_bare-requires-clause-rising : goal.kill_bare-requires-clause-rising
kill_bare-requires-clause-rising c =
    rising_verts (record { verts = c.args.verts.now; edges = c.args.edges.now; faces = c.args.faces.now })
    c.requires.rising

pub kill_bare-requires-clause-spare : goal.kill_bare-requires-clause-spare
kill_bare-requires-clause-spare c = λ i d less.
    ap (λ (x : Complex). can_lose_vert x (get_or c.args.verts.now i d)) (c.in_ok-kill_loose.ensures.now
    ∙ ap (λ (x : Complex). without_loose x c.args.edges.now) c.in_ok-kill_faces.ensures.now)
    ∙ set_spare (now c.args.mesh.now) c.args.faces.now c.args.edges.now (get_or c.args.verts.now i d)
    c.counters.ensures.linked c.requires.closed

pub returns-clause-now : goal.returns-clause-now
returns-clause-now c =
    c.in_ok-kill_bare.ensures.now
    ∙ ap (λ (x : Complex). without_bare x c.args.verts.now) (c.in_ok-kill_loose.ensures.now
    ∙ ap (λ (x : Complex). without_loose x c.args.edges.now) c.in_ok-kill_faces.ensures.now)

pub returns-clause-base : goal.returns-clause-base
returns-clause-base c = c.kill_bare.ensures.base ∙ c.kill_loose.ensures.base ∙ c.kill_faces.ensures.base

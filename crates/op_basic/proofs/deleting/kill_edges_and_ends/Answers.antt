use Rattle.std.proofs.Common.{List, get_or, ap, sym, subst, ◌∙◌, All}
use Rattle.mesh_model.specs.Table.{IsThere}
use Rattle.mesh_model.specs.Complex.{Complex}
use Rattle.mesh_model.specs.Elements.{Elements}
use Rattle.mesh_model.specs.Kernel.{can_lose_vert}
use Rattle.mesh_model.specs.declared.names.VertName.{VertName}
use Rattle.mesh_core.specs.Seen.{now}
use Rattle.mesh_passes.specs.Killing.{without_edges, without_bare}
use Rattle.mesh_model.proofs.Deletings.{AreClosed-valid}
use Rattle.mesh_passes.proofs.KilledParts.{can_lose, IsValid-without_edges}
use Rattle.op_basic.proofs.Deletions.{live_without_edges}
use Rattle.op_basic.proofs.deleting.kill_edges_and_ends.Goals as goal

pub kill_bare-requires-clause-live : goal.kill_bare-requires-clause-live
kill_bare-requires-clause-live c =
    live_without_edges (now c.args.mesh.now) (now c.kill_edges.new.mesh) c.edges.result.now c.verts.result.now
    c.in_ok-kill_edges.ensures.now
    (subst (λ (vs : List VertName). All (λ (v : VertName). IsThere (now c.args.mesh.now).verts v.0) vs)
    (sym c.verts.ensures.names) c.in_ok-set.ensures.live.verts)

pub kill_bare-requires-clause-spare : goal.kill_bare-requires-clause-spare
kill_bare-requires-clause-spare c = λ i d less.
    ap (λ (x : Complex). can_lose_vert x (get_or c.verts.result.now i d)) c.in_ok-kill_edges.ensures.now
    ∙ can_lose (without_edges (now c.args.mesh.now) c.edges.result.now) (get_or c.verts.result.now i d)
    (AreClosed-valid (without_edges (now c.args.mesh.now) c.edges.result.now)
    (IsValid-without_edges (now c.args.mesh.now) c.edges.result.now c.requires.valid))

pub returns-clause-now : goal.returns-clause-now
returns-clause-now c =
    c.in_ok-kill_bare.ensures.now
    ∙ ap (λ (x : Complex). without_bare x c.verts.result.now) (c.in_ok-kill_edges.ensures.now
    ∙ ap (without_edges (now c.args.mesh.now)) c.edges.ensures.names)
    ∙ ap (without_bare (without_edges (now c.args.mesh.now) c.args.geom.now.edges)) (c.verts.ensures.names
    ∙ ap (λ (x : Elements). x.verts) c.in_ok-set.ensures.closure)

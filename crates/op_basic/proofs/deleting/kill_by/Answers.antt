use Rattle.std.proofs.Common.{ap, sym, ◌∙◌}
use Rattle.mesh_model.specs.Deleting.{without_verts}
use Rattle.op_slots.specs.declared.op.Context.{Context}
use Rattle.op_basic.specs.Deleting.{remaining}
use Rattle.mesh_core.specs.Seen.{now}
use Rattle.mesh_passes.specs.Killing.{without_faces, without_edges}
use Rattle.mesh_passes.proofs.Steps.{on_ok}
use Rattle.op_basic.proofs.deleting.kill_by.Goals as goal

pub returns-in-Verts-clause-now : goal.returns-in-Verts-clause-now
returns-in-Verts-clause-now c = on_ok c.kill_verts.result _ _
    (λ e. e ∙ ap (without_verts (now c.args.mesh.now)) c.verts.ensures.names
    ∙ ap (λ (k : Context). remaining k c.args.geom.now (now c.args.mesh.now)) (sym c.in-Verts.is)) c.kill_verts.ensures.now

pub returns-in-EdgesFaces-clause-now : goal.returns-in-EdgesFaces-clause-now
returns-in-EdgesFaces-clause-now c = on_ok c.kill_edges.result _ _
    (λ e. e ∙ ap (without_edges (now c.args.mesh.now)) c.edges.ensures.names
    ∙ ap (λ (k : Context). remaining k c.args.geom.now (now c.args.mesh.now)) (sym c.in-EdgesFaces.is)) c.kill_edges.ensures.now

pub returns-in-FacesOnly-clause-now : goal.returns-in-FacesOnly-clause-now
returns-in-FacesOnly-clause-now c = on_ok c.kill_faces.result _ _
    (λ e. e ∙ ap (without_faces (now c.args.mesh.now)) c.faces.ensures.names
    ∙ ap (λ (k : Context). remaining k c.args.geom.now (now c.args.mesh.now)) (sym c.in-FacesOnly.is)) c.kill_faces.ensures.now

use Rattle.std.proofs.Common.{◌≡◌, ◌+◌, [], ◌∷◌, length, take, get_or, sym, ap, ◌∙◌, subst, arith, length-take}
use Rattle.mesh_model.specs.Complex.{Complex}
use Rattle.mesh_model.specs.declared.names.EdgeName.{EdgeName}
use Rattle.mesh_core.specs.Seen.{now}
use Rattle.mesh_passes.proofs.Steps.{edge_in, stepped}
use Rattle.mesh_copies.specs.CopyingSteps.{vert_after, with_edge_copies, IsEdgeCopyLinked}
use Rattle.mesh_copies.proofs.Copied.{no_edge}
use Rattle.mesh_copies.proofs.Copyings.{edges_more, edges_live, edges_long, edges_linked}
use Rattle.mesh_copies.proofs.copying.copy_edges.Goals as goal

pub copy_edge-requires-clause-live : goal.copy_edge-requires-clause-live
copy_edge-requires-clause-live c =
    let es = c.args.edges.now in
    let i = c.loop-e.e-index in
    let rv = vert_after c.args.next c.args.set.now in
    edge_in (now c.loop-e.mesh) (with_edge_copies rv (now c.args.mesh.now) (take i es)) (get_or es i no_edge).0
    c.loop-e.invariant.now
    (edges_live rv (now c.args.mesh.now) (take i es) (get_or es i no_edge)
    (c.requires.live i no_edge c.loop-e-test.true))

pub copy_edge-requires-clause-linked : goal.copy_edge-requires-clause-linked
copy_edge-requires-clause-linked c =
    let es = c.args.edges.now in
    let i = c.loop-e.e-index in
    let rv = vert_after c.args.next c.args.set.now in
    subst (λ (x : Complex). IsEdgeCopyLinked rv x (get_or es i no_edge)) (sym c.loop-e.invariant.now)
    (edges_linked rv (now c.args.mesh.now) (take i es) (get_or es i no_edge)
    (c.requires.live i no_edge c.loop-e-test.true) (c.requires.linked i no_edge c.loop-e-test.true))

pub copy_edge-requires-clause-limit : goal.copy_edge-requires-clause-limit
copy_edge-requires-clause-limit c =
    let es = c.args.edges.now in
    let i = c.loop-e.e-index in
    let rv = vert_after c.args.next c.args.set.now in
    let long : length (now c.loop-e.mesh).edges ≡ length (now c.args.mesh.now).edges + length (take i es) =
    ap (λ (x : Complex). length x.edges) c.loop-e.invariant.now ∙ edges_long rv (now c.args.mesh.now) (take i es) in
    omega (arith, long, length-take i es, c.requires.limit, c.loop-e-test.true)

pub loop-e-preserved : goal.loop-e-preserved
loop-e-preserved c =
    let es = c.args.edges.now in
    let i = c.loop-e.e-index in
    let rv = vert_after c.args.next c.args.set.now in record {
      now = stepped (λ (x : Complex) (e : EdgeName). with_edge_copies rv x (e ∷ [])) (get_or es i no_edge)
          (now c.loop-e.mesh) _ (with_edge_copies rv (now c.args.mesh.now) (take i es)) _
          c.in_ok-copy_edge.ensures.now c.loop-e.invariant.now
          (edges_more rv (now c.args.mesh.now) es i no_edge c.loop-e-test.true
          (c.requires.live i no_edge c.loop-e-test.true));
      base = c.copy_edge.ensures.base ∙ c.loop-e.invariant.base;
    }

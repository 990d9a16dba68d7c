use Rattle.std.proofs.Common.{◌≡◌, take, get_or, ◌∙◌}
use Rattle.mesh_model.specs.declared.names.EdgeName.{EdgeName}
use Rattle.mesh_model.specs.Kernel.{without_edge}
use Rattle.mesh_passes.specs.Killing.{without_edges}
use Rattle.mesh_core.specs.Seen.{now}
use Rattle.mesh_passes.proofs.Steps.{edge_in, stepped}
use Rattle.mesh_passes.proofs.Killings.{edges_more, edges_live}
use Rattle.mesh_passes.proofs.kills.kill_edges.Goals as goal

abbrev none : EdgeName
none = record { 0 = 0 }

pub kill_edge-requires : goal.kill_edge-requires
kill_edge-requires c =
    edge_in (now c.loop-e.mesh) (without_edges (now c.args.mesh.now) (take c.loop-e.e-index c.args.edges.now))
    (get_or c.args.edges.now c.loop-e.e-index none).0 c.loop-e.invariant.now
    (edges_live (now c.args.mesh.now) c.args.edges.now c.loop-e.e-index none c.requires.rising c.loop-e-test.true
    (c.requires.live c.loop-e.e-index none c.loop-e-test.true))

pub loop-e-preserved : goal.loop-e-preserved
loop-e-preserved c = record {
  now = stepped without_edge (get_or c.args.edges.now c.loop-e.e-index none) (now c.loop-e.mesh) _
      (without_edges (now c.args.mesh.now) (take c.loop-e.e-index c.args.edges.now)) _ c.in_ok-kill_edge.ensures.now
      c.loop-e.invariant.now
      (edges_more (now c.args.mesh.now) c.args.edges.now c.loop-e.e-index none c.loop-e-test.true);
  base = c.kill_edge.ensures.base ∙ c.loop-e.invariant.base;
}

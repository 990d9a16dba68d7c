use Rattle.std.proofs.Common.{◌≡◌, take, get_or, ◌∙◌}
use Rattle.mesh_model.specs.declared.names.EdgeName.{EdgeName}
use Rattle.mesh_passes.specs.KillingSteps.{without_if_loose}
use Rattle.mesh_passes.specs.Killing.{without_loose}
use Rattle.mesh_core.specs.Seen.{now}
use Rattle.mesh_passes.proofs.Steps.{edge_in, stepped}
use Rattle.mesh_passes.proofs.Killings.{loose_more, loose_live}
use Rattle.mesh_passes.proofs.kills.kill_loose.Goals as goal

abbrev none : EdgeName
none = record { 0 = 0 }

pub kill_if_loose-requires : goal.kill_if_loose-requires
kill_if_loose-requires c =
    edge_in (now c.loop-e.mesh) (without_loose (now c.args.mesh.now) (take c.loop-e.e-index c.args.edges.now))
    (get_or c.args.edges.now c.loop-e.e-index none).0 c.loop-e.invariant.now
    (loose_live (now c.args.mesh.now) c.args.edges.now c.loop-e.e-index none c.requires.rising c.loop-e-test.true
    (c.requires.live c.loop-e.e-index none c.loop-e-test.true))

pub loop-e-preserved : goal.loop-e-preserved
loop-e-preserved c = record {
  now = stepped without_if_loose (get_or c.args.edges.now c.loop-e.e-index none) (now c.loop-e.mesh) _
      (without_loose (now c.args.mesh.now) (take c.loop-e.e-index c.args.edges.now)) _ c.in_ok-kill_if_loose.ensures.now
      c.loop-e.invariant.now
      (loose_more (now c.args.mesh.now) c.args.edges.now c.loop-e.e-index none c.loop-e-test.true);
  base = c.kill_if_loose.ensures.base ∙ c.loop-e.invariant.base;
}

use Rattle.std.proofs.Common.{◌≡◌, take, get_or, ◌∙◌, true, ap, sym}
use Rattle.mesh_model.specs.declared.names.VertName.{VertName}
use Rattle.mesh_passes.specs.KillingSteps.{without_if_bare}
use Rattle.mesh_passes.specs.Killing.{without_bare}
use Rattle.mesh_core.specs.Seen.{now}
use Rattle.mesh_passes.proofs.Steps.{vert_in, stepped}
use Rattle.mesh_passes.proofs.Killings.{bare_more, bare_live, bare_spare}
use Rattle.mesh_passes.proofs.kills.kill_bare.Goals as goal

abbrev none : VertName
none = record { 0 = 0 }

pub kill_if_bare-requires-clause-there : goal.kill_if_bare-requires-clause-there
kill_if_bare-requires-clause-there c =
    vert_in (now c.loop-v.mesh) (without_bare (now c.args.mesh.now) (take c.loop-v.v-index c.args.verts.now))
    (get_or c.args.verts.now c.loop-v.v-index none).0 c.loop-v.invariant.now
    (bare_live (now c.args.mesh.now) c.args.verts.now c.loop-v.v-index none c.requires.rising c.loop-v-test.true
    (c.requires.live c.loop-v.v-index none c.loop-v-test.true))

pub kill_if_bare-requires-clause-spare : goal.kill_if_bare-requires-clause-spare
kill_if_bare-requires-clause-spare c =
    bare_spare (now c.args.mesh.now) (now c.loop-v.mesh) (take c.loop-v.v-index c.args.verts.now)
    (get_or c.args.verts.now c.loop-v.v-index none) c.loop-v.invariant.now
    (c.requires.spare c.loop-v.v-index none c.loop-v-test.true)

pub loop-v-preserved : goal.loop-v-preserved
loop-v-preserved c = record {
  now = stepped without_if_bare (get_or c.args.verts.now c.loop-v.v-index none) (now c.loop-v.mesh) _
      (without_bare (now c.args.mesh.now) (take c.loop-v.v-index c.args.verts.now)) _ c.in_ok-kill_if_bare.ensures.now
      c.loop-v.invariant.now
      (bare_more (now c.args.mesh.now) c.args.verts.now c.loop-v.v-index none c.loop-v-test.true);
  base = c.kill_if_bare.ensures.base ∙ c.loop-v.invariant.base;
}

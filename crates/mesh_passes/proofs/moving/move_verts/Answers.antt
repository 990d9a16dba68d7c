use Rattle.std.proofs.Common.{◌≡◌, take, get_or, ◌∙◌, true, ap, sym}
use Rattle.mesh_model.specs.Table.{at, passes}
use Rattle.mesh_model.specs.Complex.{Complex}
use Rattle.mesh_model.specs.declared.names.VertName.{VertName}
use Rattle.mesh_core.specs.Seen.{now}
use Rattle.mesh_passes.specs.Moving.{moved, moved_one, stays_on_grid}
use Rattle.mesh_passes.proofs.Steps.{stepped}
use Rattle.mesh_passes.proofs.Movings.{moved_more, moved_stays}
use Rattle.mesh_passes.proofs.moving.move_verts.Goals as goal

abbrev none : VertName
none = record { 0 = 0 }

pub move_vert-requires : goal.move_vert-requires
move_vert-requires g c =
    let to = g.M.Motion.to c.args.motion.now in
    ap (λ (x : Complex). passes (stays_on_grid to) (at x.verts (get_or c.args.verts.now c.loop-v.v-index none).0))
    c.loop-v.invariant.now
    ∙ moved_stays to (now c.args.mesh.now) c.args.verts.now c.loop-v.v-index none c.requires.rising c.loop-v-test.true
    (c.requires.live c.loop-v.v-index none c.loop-v-test.true) c.requires.stays c.requires.valid

pub loop-v-preserved : goal.loop-v-preserved
loop-v-preserved g c = record {
  now = stepped (moved_one (g.M.Motion.to c.args.motion.now)) (get_or c.args.verts.now c.loop-v.v-index none)
      (now c.loop-v.mesh) _ (moved (g.M.Motion.to c.args.motion.now) (now c.args.mesh.now)
      (take c.loop-v.v-index c.args.verts.now)) _ c.in_ok-move_vert.ensures.now c.loop-v.invariant.now
      (moved_more (g.M.Motion.to c.args.motion.now) (now c.args.mesh.now) c.args.verts.now c.loop-v.v-index none
      c.requires.rising c.loop-v-test.true);
  base = c.move_vert.ensures.base ∙ c.loop-v.invariant.base;
}

use Rattle.std.proofs.Common.{◌≡◌, List, take, get_or, ◌∙◌, true, ap, sym, refl}
use Rattle.std.proofs.lemmas.List.{take_all}
use Rattle.mesh_model.specs.declared.names.VertName.{VertName}
use Rattle.mesh_model.specs.Kernel.{without_vert, can_lose_vert}
use Rattle.mesh_model.specs.Complex.{Complex}
use Rattle.mesh_model.specs.Deleting.{without_verts}
use Rattle.mesh_core.specs.Seen.{now}
use Rattle.mesh_passes.proofs.Steps.{vert_in, stepped}
use Rattle.mesh_passes.proofs.KilledVerts.{verts_none, verts_more, verts_live, verts_spare}
use Rattle.mesh_passes.proofs.kills.kill_verts.Goals as goal

abbrev none : VertName
none = record { 0 = 0 }

pub loop-v-init : goal.loop-v-init
loop-v-init c = record { now = sym (verts_none (now c.args.mesh.now)); base = refl }

pub kill_vert-requires-clause-there : goal.kill_vert-requires-clause-there
kill_vert-requires-clause-there c =
    vert_in (now c.loop-v.mesh) (without_verts (now c.args.mesh.now) (take c.loop-v.v-index c.args.verts.now))
    (get_or c.args.verts.now c.loop-v.v-index none).0 c.loop-v.invariant.now
    (verts_live (now c.args.mesh.now) c.args.verts.now c.loop-v.v-index none c.requires.rising c.loop-v-test.true
    (c.requires.live c.loop-v.v-index none c.loop-v-test.true))

pub kill_vert-requires-clause-corners : goal.kill_vert-requires-clause-corners
kill_vert-requires-clause-corners c =
    ap (λ (x : Complex). can_lose_vert x (get_or c.args.verts.now c.loop-v.v-index none)) c.loop-v.invariant.now
    ∙ verts_spare (now c.args.mesh.now) (take c.loop-v.v-index c.args.verts.now)
    (get_or c.args.verts.now c.loop-v.v-index none) c.requires.valid

pub loop-v-preserved : goal.loop-v-preserved
loop-v-preserved c = record {
  now = stepped without_vert (get_or c.args.verts.now c.loop-v.v-index none) (now c.loop-v.mesh) _
      (without_verts (now c.args.mesh.now) (take c.loop-v.v-index c.args.verts.now)) _ c.in_ok-kill_vert.ensures.now
      c.loop-v.invariant.now
      (verts_more (now c.args.mesh.now) c.args.verts.now c.loop-v.v-index none c.requires.valid c.loop-v-test.true);
  base = c.kill_vert.ensures.base ∙ c.loop-v.invariant.base;
}

pub returns-clause-now : goal.returns-clause-now
returns-clause-now c = c.loop-v.invariant.now
    ∙ ap (without_verts (now c.args.mesh.now)) (take_all c.loop-v.v-index c.args.verts.now c.loop-v-test.false)

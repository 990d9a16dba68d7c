use Rattle.std.proofs.Common.{◌+◌, ◌≤◌, ℕ, length, take, get_or, refl, ap, sym, subst, ◌∙◌}
use Rattle.mesh_model.specs.Complex.{Complex, width}
use Rattle.mesh_model.specs.declared.names.Kind.TheVariants.{Verts}
use Rattle.mesh_model.specs.declared.names.VertName.{VertName}
use Rattle.mesh_core.specs.Seen.{now}
use Rattle.mesh_passes.proofs.Steps.{vert_in, stepped}
use Rattle.op_values.specs.Putting.{put_from, vert_put, verts_put}
use Rattle.op_values.proofs.Puttings.{verts_put-none, verts_put-more, verts_put-live, verts_put-width}
use Rattle.op_values.proofs.putting.put_at_verts.Goals as goal

abbrev none : VertName
none = record { 0 = 0 }

pub loop-v-init : goal.loop-v-init
loop-v-init c = record {
  now = sym (verts_put-none (put_from c.args.from c.args.numbers.now) (now c.args.mesh.now));
  base = refl;
}

pub put_at_vert-requires-clause-there : goal.put_at_vert-requires-clause-there
put_at_vert-requires-clause-there c =
    let f = put_from c.args.from c.args.numbers.now in
    vert_in (now c.loop-v.mesh) (verts_put f (now c.args.mesh.now) (take c.loop-v.v-index c.args.verts.now))
    (get_or c.args.verts.now c.loop-v.v-index none).0 c.loop-v.invariant.now
    (verts_put-live f (now c.args.mesh.now) c.args.verts.now c.loop-v.v-index none c.requires.rising c.loop-v-test.true
    (c.requires.live c.loop-v.v-index none c.loop-v-test.true))

pub put_at_vert-requires-clause-fits : goal.put_at_vert-requires-clause-fits
put_at_vert-requires-clause-fits c =
    let f = put_from c.args.from c.args.numbers.now in
    subst (λ (w : ℕ). c.args.from + length c.args.numbers.now ≤ w)
    (sym (ap (λ (x : Complex). width x Verts) c.loop-v.invariant.now
    ∙ verts_put-width f (now c.args.mesh.now) (take c.loop-v.v-index c.args.verts.now))) c.requires.fits

pub loop-v-preserved : goal.loop-v-preserved
loop-v-preserved c =
    let f = put_from c.args.from c.args.numbers.now in record {
      now = stepped (vert_put f) (get_or c.args.verts.now c.loop-v.v-index none) (now c.loop-v.mesh) _
          (verts_put f (now c.args.mesh.now) (take c.loop-v.v-index c.args.verts.now)) _ c.in_ok-put_at_vert.ensures.now
          c.loop-v.invariant.now
          (verts_put-more f (now c.args.mesh.now) c.args.verts.now c.loop-v.v-index none c.requires.rising
          c.loop-v-test.true);
      base = c.put_at_vert.ensures.base ∙ c.loop-v.invariant.base;
    }

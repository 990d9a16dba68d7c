use Rattle.std.proofs.Common.{◌+◌, ◌≤◌, ℕ, length, take, get_or, refl, ap, sym, subst, ◌∙◌}
use Rattle.mesh_model.specs.Complex.{Complex, width}
use Rattle.mesh_model.specs.declared.names.Kind.TheVariants.{Corners}
use Rattle.mesh_model.specs.declared.names.FaceName.{FaceName}
use Rattle.mesh_core.specs.Seen.{now}
use Rattle.mesh_passes.proofs.Steps.{face_in, stepped}
use Rattle.op_values.specs.Putting.{put_from, corners_put, all_corners_put}
use Rattle.op_values.proofs.Puttings.{all_corners_put-none, all_corners_put-more, all_corners_put-live, all_corners_put-width}
use Rattle.op_values.proofs.putting.put_at_corners.Goals as goal

abbrev none : FaceName
none = record { 0 = 0 }

pub loop-f-init : goal.loop-f-init
loop-f-init c = record {
  now = sym (all_corners_put-none (put_from c.args.from c.args.numbers.now) (now c.args.mesh.now));
  base = refl;
}

pub put_at_corners_of-requires-clause-there : goal.put_at_corners_of-requires-clause-there
put_at_corners_of-requires-clause-there c =
    let f = put_from c.args.from c.args.numbers.now in
    face_in (now c.loop-f.mesh) (all_corners_put f (now c.args.mesh.now) (take c.loop-f.f-index c.args.faces.now))
    (get_or c.args.faces.now c.loop-f.f-index none).0 c.loop-f.invariant.now
    (all_corners_put-live f (now c.args.mesh.now) c.args.faces.now c.loop-f.f-index none c.requires.rising
    c.loop-f-test.true (c.requires.live c.loop-f.f-index none c.loop-f-test.true))

pub put_at_corners_of-requires-clause-fits : goal.put_at_corners_of-requires-clause-fits
put_at_corners_of-requires-clause-fits c =
    let f = put_from c.args.from c.args.numbers.now in
    subst (λ (w : ℕ). c.args.from + length c.args.numbers.now ≤ w)
    (sym (ap (λ (x : Complex). width x Corners) c.loop-f.invariant.now
    ∙ all_corners_put-width f (now c.args.mesh.now) (take c.loop-f.f-index c.args.faces.now))) c.requires.fits

pub loop-f-preserved : goal.loop-f-preserved
loop-f-preserved c =
    let f = put_from c.args.from c.args.numbers.now in record {
      now = stepped (corners_put f) (get_or c.args.faces.now c.loop-f.f-index none) (now c.loop-f.mesh) _
          (all_corners_put f (now c.args.mesh.now) (take c.loop-f.f-index c.args.faces.now)) _
          c.in_ok-put_at_corners_of.ensures.now
          c.loop-f.invariant.now
          (all_corners_put-more f (now c.args.mesh.now) c.args.faces.now c.loop-f.f-index none c.requires.rising
          c.loop-f-test.true);
      base = c.put_at_corners_of.ensures.base ∙ c.loop-f.invariant.base;
    }

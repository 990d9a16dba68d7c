use Rattle.std.proofs.Common.{◌+◌, ◌≤◌, ℕ, length, take, get_or, refl, ap, sym, subst, ◌∙◌}
use Rattle.mesh_model.specs.Complex.{Complex, width}
use Rattle.mesh_model.specs.declared.names.Kind.TheVariants.{Faces}
use Rattle.mesh_model.specs.declared.names.FaceName.{FaceName}
use Rattle.mesh_core.specs.Seen.{now}
use Rattle.mesh_passes.proofs.Steps.{face_in, stepped}
use Rattle.op_values.specs.Putting.{put_from, face_put, faces_put}
use Rattle.op_values.proofs.Puttings.{faces_put-none, faces_put-more, faces_put-live, faces_put-width}
use Rattle.op_values.proofs.putting.put_at_faces.Goals as goal

abbrev none : FaceName
none = record { 0 = 0 }

pub loop-f-init : goal.loop-f-init
loop-f-init c = record {
  now = sym (faces_put-none (put_from c.args.from c.args.numbers.now) (now c.args.mesh.now));
  base = refl;
}

pub put_at_face-requires-clause-there : goal.put_at_face-requires-clause-there
put_at_face-requires-clause-there c =
    let f = put_from c.args.from c.args.numbers.now in
    face_in (now c.loop-f.mesh) (faces_put f (now c.args.mesh.now) (take c.loop-f.f-index c.args.faces.now))
    (get_or c.args.faces.now c.loop-f.f-index none).0 c.loop-f.invariant.now
    (faces_put-live f (now c.args.mesh.now) c.args.faces.now c.loop-f.f-index none c.requires.rising c.loop-f-test.true
    (c.requires.live c.loop-f.f-index none c.loop-f-test.true))

pub put_at_face-requires-clause-fits : goal.put_at_face-requires-clause-fits
put_at_face-requires-clause-fits c =
    let f = put_from c.args.from c.args.numbers.now in
    subst (λ (w : ℕ). c.args.from + length c.args.numbers.now ≤ w)
    (sym (ap (λ (x : Complex). width x Faces) c.loop-f.invariant.now
    ∙ faces_put-width f (now c.args.mesh.now) (take c.loop-f.f-index c.args.faces.now))) c.requires.fits

pub loop-f-preserved : goal.loop-f-preserved
loop-f-preserved c =
    let f = put_from c.args.from c.args.numbers.now in record {
      now = stepped (face_put f) (get_or c.args.faces.now c.loop-f.f-index none) (now c.loop-f.mesh) _
          (faces_put f (now c.args.mesh.now) (take c.loop-f.f-index c.args.faces.now)) _ c.in_ok-put_at_face.ensures.now
          c.loop-f.invariant.now
          (faces_put-more f (now c.args.mesh.now) c.args.faces.now c.loop-f.f-index none c.requires.rising
          c.loop-f-test.true);
      base = c.put_at_face.ensures.base ∙ c.loop-f.invariant.base;
    }

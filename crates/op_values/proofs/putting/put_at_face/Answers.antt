use Rattle.std.proofs.Common.{◌≡◌, length, arith, ap, ◌∙◌}
use Rattle.mesh_model.specs.Table.{at}
use Rattle.mesh_model.specs.Complex.{width}
use Rattle.mesh_model.specs.declared.names.Kind.TheVariants.{Faces}
use Rattle.mesh_model.specs.declared.records.FaceRec.{FaceRec}
use Rattle.mesh_core.specs.Seen.{now}
use Rattle.mesh_passes.proofs.Steps.{on_ok}
use Rattle.op_values.specs.Putting.{put_from}
use Rattle.op_values.proofs.Puttings.{row_wide, put_from-long, face_step}
use Rattle.op_values.proofs.putting.put_at_face.Goals as goal

pub changed_row-requires : goal.changed_row-requires
changed_row-requires c =
    let whole = now c.args.mesh.now in
    let wide = row_wide (λ (r : FaceRec). r.vals) (at whole.faces c.args.f.0) c.face_row-was.result (width whole Faces)
    (λ r is. (c.counters.ensures.linked.faces c.args.f.0 r is).vals) c.face_row-was.ensures in
    let fits = c.requires.fits in
    omega (arith, wide, ap length c.as_slice.ensures)

pub set_face_vals-requires-clause-wide : goal.set_face_vals-requires-clause-wide
set_face_vals-requires-clause-wide c =
    let whole = now c.args.mesh.now in
    let wide = row_wide (λ (r : FaceRec). r.vals) (at whole.faces c.args.f.0) c.face_row-was.result (width whole Faces)
    (λ r is. (c.counters.ensures.linked.faces c.args.f.0 r is).vals) c.face_row-was.ensures in
    let f = put_from c.args.from c.args.numbers.now in
    let made : c.deref.result.now ≡ f c.face_row-was.result =
    c.deref.ensures.value ∙ c.in_ok-row.ensures ∙ ap f c.as_slice.ensures in
    let fits = c.requires.fits in
    ap length made ∙ put_from-long c.args.from c.args.numbers.now c.face_row-was.result (omega (arith, wide)) ∙ wide

pub returns-clause-now : goal.returns-clause-now
returns-clause-now c =
    let whole = now c.args.mesh.now in
    let f = put_from c.args.from c.args.numbers.now in
    let made : c.deref.result.now ≡ f c.face_row-was.result =
    c.deref.ensures.value ∙ c.in_ok-row.ensures ∙ ap f c.as_slice.ensures in
    on_ok c.set_face_vals.result _ _
    (λ e. e ∙ face_step f whole c.args.f c.face_row-was.result c.deref.result.now c.face_row-was.ensures made)
    c.set_face_vals.ensures.now

use Rattle.std.proofs.Common.{◌≡◌, length, arith, ap, ◌∙◌}
use Rattle.mesh_model.specs.Table.{at}
use Rattle.mesh_model.specs.Complex.{width}
use Rattle.mesh_model.specs.declared.names.Kind.TheVariants.{Verts}
use Rattle.mesh_model.specs.declared.records.VertRec.{VertRec}
use Rattle.mesh_core.specs.Seen.{now}
use Rattle.mesh_passes.proofs.Steps.{on_ok}
use Rattle.op_values.specs.Putting.{put_from}
use Rattle.op_values.proofs.Puttings.{row_wide, put_from-long, vert_step}
use Rattle.op_values.proofs.putting.put_at_vert.Goals as goal

pub changed_row-requires : goal.changed_row-requires
changed_row-requires c =
    let whole = now c.args.mesh.now in
    let wide = row_wide (λ (r : VertRec). r.vals) (at whole.verts c.args.v.0) c.vert_row-was.result (width whole Verts)
    (λ r is. (c.counters.ensures.linked.verts c.args.v.0 r is).vals) c.vert_row-was.ensures in
    let fits = c.requires.fits in
    omega (arith, wide, ap length c.as_slice.ensures)

pub set_vert_vals-requires-clause-wide : goal.set_vert_vals-requires-clause-wide
set_vert_vals-requires-clause-wide c =
    let whole = now c.args.mesh.now in
    let wide = row_wide (λ (r : VertRec). r.vals) (at whole.verts c.args.v.0) c.vert_row-was.result (width whole Verts)
    (λ r is. (c.counters.ensures.linked.verts c.args.v.0 r is).vals) c.vert_row-was.ensures in
    let f = put_from c.args.from c.args.numbers.now in
    let made : c.deref.result.now ≡ f c.vert_row-was.result =
    c.deref.ensures.value ∙ c.in_ok-row.ensures ∙ ap f c.as_slice.ensures in
    let fits = c.requires.fits in
    ap length made ∙ put_from-long c.args.from c.args.numbers.now c.vert_row-was.result (omega (arith, wide)) ∙ wide

pub returns-clause-now : goal.returns-clause-now
returns-clause-now c =
    let whole = now c.args.mesh.now in
    let f = put_from c.args.from c.args.numbers.now in
    let made : c.deref.result.now ≡ f c.vert_row-was.result =
    c.deref.ensures.value ∙ c.in_ok-row.ensures ∙ ap f c.as_slice.ensures in
    on_ok c.set_vert_vals.result _ _
    (λ e. e ∙ vert_step f whole c.args.v c.vert_row-was.result c.deref.result.now c.vert_row-was.ensures made)
    c.set_vert_vals.ensures.now

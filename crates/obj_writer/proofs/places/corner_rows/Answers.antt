use Rattle.std.proofs.Common.{◌≡◌, ◌≤◌, ◌<◌, length, arith}
use Rattle.mesh_model.specs.Table.{at}
use Rattle.mesh_model.specs.Complex.{corners_of, width}
use Rattle.mesh_model.specs.declared.names.Kind.TheVariants.{Corners}
use Rattle.mesh_model.proofs.Copies.{few-wide}
use Rattle.obj_writer.proofs.PlaceLemmas.{width_few}
use Rattle.obj_writer.proofs.places.corner_rows.Goals as goal

pub overflow_mul-count : goal.overflow_mul-count
overflow_mul-count g c =
    let whole = g.S.Shape.complex c.args.shape.now in
    let narrow : c.width.result ≤ 64 = rw c.width.ensures (width_few whole c.requires.linked) in
    let few : c.corner_count-count.result < 4294967296 = c.corner_count-count.type_inv in
    let fits = few-wide c.corner_count-count.result c.width.result few narrow in
    omega arith

pub corner_rows-requires-clause-room : goal.corner_rows-requires-clause-room
corner_rows-requires-clause-room g c =
    let whole = g.S.Shape.complex c.args.shape.now in
    let corners = corners_of (at whole.faces c.args.f.0) in
    let count : c.corner_count-count.result ≡ length corners = c.corner_count-count.ensures in
    let wide : c.width.result ≡ width whole Corners = c.width.ensures in
    rw (← wide, ← count) (omega (arith, c.in_ok-resize.ensures.len, c.deref_mut.ensures.len))

use Rattle.std.proofs.Common.{◌≡◌, ◌∙◌, ℤ, List, [], ◌∷◌, Some, length, refl, sym, ap, subst, rules}
use Rattle.std.specs.List.{fold}
use Rattle.mesh_model.specs.Complex.{width}
use Rattle.mesh_model.specs.Table.{at}
use Rattle.mesh_model.specs.declared.names.Kind.TheVariants.{Verts}
use Rattle.mesh_model.specs.declared.records.VertRec.{VertRec}
use Rattle.layer_sums.specs.Sums.{vert_rows, plus, AreWithin}
use Rattle.layer_sums.proofs.Bounds.{within_more}
use Rattle.layer_sums.proofs.Summing.{right_at, row_read, no_row}
use Rattle.layer_sums.proofs.rows.add_vert.Goals as goal

pub add_row-requires-clause-wide : goal.add_row-requires-clause-wide
add_row-requires-clause-wide g c =
    let whole = g.S.Shape.complex c.args.shape.now in
    let read = row_read (width whole Verts) vert_rows (λ (x : VertRec). x.vals) (at whole.verts c.args.v.0)
    c.vert_row.result (λ x. refl) c.vert_row.ensures (right_at whole c.requires.valid Verts c.args.v.0) in
    ap length c.as_slice.ensures ∙ read.1.long ∙ sym c.requires.wide

pub add_row-requires-clause-small : goal.add_row-requires-clause-small
add_row-requires-clause-small g c =
    let whole = g.S.Shape.complex c.args.shape.now in
    let read = row_read (width whole Verts) vert_rows (λ (x : VertRec). x.vals) (at whole.verts c.args.v.0)
    c.vert_row.result (λ x. refl) c.vert_row.ensures (right_at whole c.requires.valid Verts c.args.v.0) in
    subst (AreWithin 1) (sym c.as_slice.ensures) read.1.small

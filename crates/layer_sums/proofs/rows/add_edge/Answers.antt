use Rattle.std.proofs.Common.{◌≡◌, ◌∙◌, ℤ, List, [], ◌∷◌, Some, length, refl, sym, ap, subst, rules}
use Rattle.std.specs.List.{fold}
use Rattle.mesh_model.specs.Complex.{width}
use Rattle.mesh_model.specs.Table.{at}
use Rattle.mesh_model.specs.declared.names.Kind.TheVariants.{Edges}
use Rattle.mesh_model.specs.declared.records.EdgeRec.{EdgeRec}
use Rattle.layer_sums.specs.Sums.{edge_rows, plus, AreWithin}
use Rattle.layer_sums.proofs.Bounds.{within_more}
use Rattle.layer_sums.proofs.Summing.{right_at, row_read, no_row}
use Rattle.layer_sums.proofs.rows.add_edge.Goals as goal

pub add_row-requires-clause-wide : goal.add_row-requires-clause-wide
add_row-requires-clause-wide g c =
    let whole = g.S.Shape.complex c.args.shape.now in
    let read = row_read (width whole Edges) edge_rows (λ (x : EdgeRec). x.vals) (at whole.edges c.args.e.0)
    c.edge_row.result (λ x. refl) c.edge_row.ensures (right_at whole c.requires.valid Edges c.args.e.0) in
    ap length c.as_slice.ensures ∙ read.1.long ∙ sym c.requires.wide

pub add_row-requires-clause-small : goal.add_row-requires-clause-small
add_row-requires-clause-small g c =
    let whole = g.S.Shape.complex c.args.shape.now in
    let read = row_read (width whole Edges) edge_rows (λ (x : EdgeRec). x.vals) (at whole.edges c.args.e.0)
    c.edge_row.result (λ x. refl) c.edge_row.ensures (right_at whole c.requires.valid Edges c.args.e.0) in
    subst (AreWithin 1) (sym c.as_slice.ensures) read.1.small

use Rattle.std.proofs.Common.{◌∙◌, ap, sym, length}
use Rattle.cust_data.specs.Layers.{total}
use Rattle.mesh_model.specs.Table.{at}
use Rattle.mesh_model.specs.declared.records.EdgeRec.{EdgeRec}
use Rattle.mesh_model.proofs.Copies.{told-wide}
use Rattle.mesh_model.proofs.copying.push_edge.Goals as goal

pub push-requires-clause-wide : goal.push-requires-clause-wide
push-requires-clause-wide g c =
    let whole = g.S.Shape.complex c.args.shape.now in
    ap length c.as_slice.ensures
    ∙ told-wide (λ (r : EdgeRec). r.vals) (at whole.edges c.args.e.0) (total whole.layers.edges) c.edge_row-row.result
    (λ r is. (c.requires.linked.edges c.args.e.0 r is).vals) c.edge_row-row.ensures
    ∙ ap total (sym c.requires.layers)

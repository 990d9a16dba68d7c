use Rattle.std.proofs.Common.{◌∙◌, ◌++◌, List, ap}
use Rattle.std.proofs.lemmas.List.{take_all}
use Rattle.mesh_model.specs.declared.layer_decl.LayerDecl.{LayerDecl}
use Rattle.bmesh_run.specs.Report.{layer_line, layer_lines}
use Rattle.bmesh_run.proofs.Listing.{kind_among, lines_more}
use Rattle.bmesh_run.proofs.write.layers.push_layers.Goals as goal

pub push_layer-requires-clause-whole : goal.push_layer-requires-clause-whole
push_layer-requires-clause-whole g c =
    c.row-row.ensures ∙ c.in_ok-totals.ensures c.layer-item.result.kind
    (kind_among c.args.layers.now c.loop-layer.layer-index c.layer-item.result c.loop-layer-test.true c.layer-item.is)

pub loop-layer-preserved : goal.loop-layer-preserved
loop-layer-preserved g c =
    lines_more (layer_line (g.S.Shape.complex c.args.shape.now)) c.args.layers.now c.loop-layer.layer-index
    c.layer-item.result c.args.out.now.items c.loop-layer.out.items c.push_layer.new.out.items c.loop-layer-test.true
    c.layer-item.is c.loop-layer.invariant c.in_ok-push_layer.ensures

pub returns : goal.returns
returns g c =
    c.loop-layer.invariant
    ∙ ap (λ (ds : List LayerDecl). c.args.out.now.items ++ layer_lines (g.S.Shape.complex c.args.shape.now) ds)
    (take_all c.loop-layer.layer-index c.args.layers.now c.loop-layer-test.false)

use Rattle.std.proofs.Common.{◌≡◌, take, ap, arith, refl}
use Rattle.cust_data.specs.Layers.{Layer, LayerTable}
use Rattle.mesh_model.specs.Complex.{layers_of}
use Rattle.mesh_model.proofs.GivenRows.{layer-at}
use Rattle.mesh_model.proofs.Copies.{refusal-next, layer-told}
use Rattle.mesh_model.proofs.Reading.{take_more_get}
use Rattle.mesh_model.proofs.copying.layers_of.Goals as goal

pub add_layer-requires : goal.add_layer-requires
add_layer-requires g c =
    let layers = layers_of (g.S.Shape.complex c.args.shape.now).layers c.args.kind in
    let it = layer-at layers c.loop-k.k (omega (arith, c.layers-k-end.ensures)) in
    let told = layer-told layers c.loop-k.k it.0 c.layer_name.result.now c.layer_width.result c.layer_rule.result it.1
    c.layer_name.ensures c.layer_width.ensures c.layer_rule.ensures in
    let before : c.loop-k.set.layers ≡ take c.loop-k.k layers = ap (λ (t : LayerTable). t.layers) c.loop-k.invariant in
    rw (before, ap (λ (l : Layer). l.name) told, ap (λ (l : Layer). l.width) told)
    (refusal-next layers c.loop-k.k it.0 c.requires it.1)

pub loop-k-preserved : goal.loop-k-preserved
loop-k-preserved g c =
    let layers = layers_of (g.S.Shape.complex c.args.shape.now).layers c.args.kind in
    let it = layer-at layers c.loop-k.k (omega (arith, c.layers-k-end.ensures)) in
    let told = layer-told layers c.loop-k.k it.0 c.layer_name.result.now c.layer_width.result c.layer_rule.result it.1
    c.layer_name.ensures c.layer_width.ensures c.layer_rule.ensures in
    rw (c.in_ok-add_layer.ensures.ok, c.loop-k.invariant, told, take_more_get layers c.loop-k.k it.0 it.1) refl

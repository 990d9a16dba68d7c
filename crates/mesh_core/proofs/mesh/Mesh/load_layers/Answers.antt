use Rattle.std.proofs.Common.{◌≡◌, List, take, sym, ap, ◌∙◌, arith}
use Rattle.cust_data.specs.Layers.{Layer}
use Rattle.mesh_model.specs.Complex.{Complex, layers_of}
use Rattle.mesh_model.specs.Declaring.{with_layers_of, with_declared}
use Rattle.mesh_model.proofs.Copies.{refusal-next, layer-told}
use Rattle.mesh_model.proofs.GivenRows.{layer-at}
use Rattle.mesh_model.proofs.Reading.{take_more_get}
use Rattle.mesh_records.specs.Loading.{only_layers}
use Rattle.mesh_core.specs.Seen.{now}
use Rattle.mesh_core.proofs.Layers.{layers_kept, layers_given, declared_only, kind_layers}
use Rattle.mesh_core.proofs.mesh.Mesh.load_layers.Goals as goal

pub loop-k-init : goal.loop-k-init
loop-k-init c = c.requires.bare
    ∙ sym (ap only_layers (layers_kept (now c.args.self.now).layers c.args.kind c.requires.none))

pub add_layer-requires : goal.add_layer-requires
add_layer-requires c =
    let layers = layers_of c.args.draft.now.layers c.args.kind in
    let it = layer-at layers c.loop-k.k (omega (arith, c.layers-k-end.ensures)) in
    let told = layer-told layers c.loop-k.k it.0 c.layer_name.result.now c.layer_width.result c.layer_rule.result it.1
    c.layer_name.ensures c.layer_width.ensures c.layer_rule.ensures in
    let before : layers_of (now c.loop-k.self).layers c.args.kind ≡ take c.loop-k.k layers =
    ap (λ (x : Complex). layers_of x.layers c.args.kind) c.loop-k.invariant
    ∙ layers_given (now c.args.self.now).layers c.args.kind (take c.loop-k.k layers) in
    rw (before, ap (λ (l : Layer). l.name) told, ap (λ (l : Layer). l.width) told)
    (refusal-next layers c.loop-k.k it.0 (kind_layers c.args.draft.now.layers c.args.kind c.requires.linked.layers)
    it.1)

pub loop-k-preserved : goal.loop-k-preserved
loop-k-preserved c =
    let layers = layers_of c.args.draft.now.layers c.args.kind in
    let kind = c.args.kind in
    let L = (now c.args.self.now).layers in
    let so_far = take c.loop-k.k layers in
    let it = layer-at layers c.loop-k.k (omega (arith, c.layers-k-end.ensures)) in
    let told = layer-told layers c.loop-k.k it.0 c.layer_name.result.now c.layer_width.result c.layer_rule.result it.1
    c.layer_name.ensures c.layer_width.ensures c.layer_rule.ensures in
    c.in_ok-add_layer.ensures
    ∙ ap (λ (x : Complex). with_declared x (record {
      kind = kind;
      name = c.layer_name.result.now;
      width = c.layer_width.result;
      rule = c.layer_rule.result;
    })) c.loop-k.invariant
    ∙ ap (λ (l : Layer). with_declared (only_layers (with_layers_of L kind so_far)) (record {
      kind = kind;
      name = l.name;
      width = l.width;
      rule = l.rule;
    })) told
    ∙ declared_only L kind so_far it.0
    ∙ ap (λ (ls : List Layer). only_layers (with_layers_of L kind ls))
    (sym (take_more_get layers c.loop-k.k it.0 it.1))

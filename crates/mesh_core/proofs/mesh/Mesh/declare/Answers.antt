use Rattle.std.proofs.Common.{◌≡◌, ◌+◌, None, take, drop, refl, sym, ap, ◌∙◌, subst, arith}
use Rattle.std.proofs.lemmas.List.{take_all}
use Rattle.std.proofs.lemmas.List.Sums.{fold_more}
use Rattle.mesh_model.specs.Complex.{KindLayers, Complex}
use Rattle.mesh_model.specs.Declaring.{declaration_fault, first_declaration_fault, with_layer_declared, with_declared, with_all_declared}
use Rattle.mesh_model.specs.declared.layer_decl.LayerDecl.{LayerDecl}
use Rattle.mesh_core.specs.Seen.{now}
use Rattle.mesh_core.proofs.Layers.{first_declared}
use Rattle.mesh_core.proofs.mesh.Mesh.declare.Goals as goal

pub loop-layer-init : goal.loop-layer-init
loop-layer-init c = record { made = refl; free = c.requires }

pub add_layer-requires : goal.add_layer-requires
add_layer-requires c =
    let ds = c.args.layers.now in
    let i = c.loop-layer.layer-index in
    let d = c.layer-item.result in
    let first = first_declared (now c.loop-layer.self).layers ds i d (omega arith) c.loop-layer.invariant.free in
    let P = λ (x : LayerDecl). declaration_fault (now c.loop-layer.self).layers x ≡ None in
    rw c.as_slice.ensures (subst P (sym c.layer-item.is) first.0)

pub loop-layer-preserved : goal.loop-layer-preserved
loop-layer-preserved c =
    let ds = c.args.layers.now in
    let i = c.loop-layer.layer-index in
    let d = c.layer-item.result in
    let was = now c.args.self.now in
    let known = c.loop-layer.invariant in
    let first = first_declared (now c.loop-layer.self).layers ds i d (omega arith) known.free in
    let made = rw c.as_slice.ensures at c.in_ok-add_layer.ensures in
    let layers = ap (λ (x : Complex). x.layers) made
    ∙ ap (with_layer_declared (now c.loop-layer.self).layers) c.layer-item.is in
    let F = λ (ls : KindLayers). first_declaration_fault ls (drop (i + 1) ds) ≡ None in
    record {
      made = made ∙ ap (λ (x : Complex). with_declared x d) known.made
          ∙ ap (with_declared (with_all_declared was (take i ds))) c.layer-item.is
          ∙ sym (fold_more with_declared was ds i d (omega arith));
      free = subst F (sym layers) first.1;
    }

pub returns : goal.returns
returns c = c.loop-layer.invariant.made
    ∙ ap (with_all_declared (now c.args.self.now)) (take_all c.loop-layer.layer-index c.args.layers.now (omega arith))

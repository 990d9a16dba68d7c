use Rattle.std.proofs.Common.{◌<◌, length, arith, ap, ◌∙◌, ◌+◌, ℕ}
use Rattle.mesh_model.specs.Complex.{layers_of}
use Rattle.mesh_model.proofs.GivenRows.{total-take}
use Rattle.layer_sums.proofs.Offsets.{kind_layers, total_next}
use Rattle.layer_sums.proofs.named.offset.Goals as goal

pub overflow_add-start : goal.overflow_add-start
overflow_add-start g c =
    let whole = g.S.Shape.complex c.args.shape.now in
    let layers = layers_of whole.layers c.args.kind in
    let less : c.loop-j.j < length layers = let within = c.requires in omega arith in
    let few = total-take layers c.loop-j.j less (kind_layers whole c.args.kind c.counters.ensures.linked) in
    omega (arith, c.loop-j.invariant, few)

pub loop-j-preserved : goal.loop-j-preserved
loop-j-preserved g c =
    let layers = layers_of (g.S.Shape.complex c.args.shape.now).layers c.args.kind in
    let less : c.loop-j.j < length layers = let within = c.requires in omega arith in
    ap (λ (n : ℕ). n + c.layer_width.result) c.loop-j.invariant
    ∙ total_next layers c.loop-j.j c.layer_width.result less c.layer_width.ensures

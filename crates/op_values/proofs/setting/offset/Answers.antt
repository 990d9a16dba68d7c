use Rattle.std.proofs.Common.{◌<◌, length, arith, ap, ◌∙◌, ◌+◌, ℕ}
use Rattle.mesh_model.specs.Complex.{layers_of}
use Rattle.mesh_model.proofs.GivenRows.{total-take}
use Rattle.mesh_core.specs.Seen.{now}
use Rattle.op_values.proofs.Settings.{kind_layers, total_next}
use Rattle.op_values.proofs.setting.offset.Goals as goal

pub overflow_add-from : goal.overflow_add-from
overflow_add-from c =
    let layers = layers_of (now c.args.mesh.now).layers c.args.kind in
    let less : c.loop-j.j < length layers = let within = c.requires in omega arith in
    let few = total-take layers c.loop-j.j less
    (kind_layers (now c.args.mesh.now) c.args.kind c.counters.ensures.linked) in
    omega (arith, c.loop-j.invariant, few)

pub loop-j-preserved : goal.loop-j-preserved
loop-j-preserved c =
    let layers = layers_of (now c.args.mesh.now).layers c.args.kind in
    let less : c.loop-j.j < length layers = let within = c.requires in omega arith in
    ap (λ (n : ℕ). n + c.layer_width.result) c.loop-j.invariant
    ∙ total_next layers c.loop-j.j c.layer_width.result less c.layer_width.ensures

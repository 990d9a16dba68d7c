use Rattle.std.proofs.Common.{◌≤◌, ◌+◌, length, arith, rules}
use Rattle.mesh_model.specs.Complex.{layers_of}
use Rattle.mesh_model.specs.Values.{offset}
use Rattle.layer_sums.proofs.Offsets.{no_layer, layer_read, ends_within}
use Rattle.cust_data.specs.Layers.{Layer}
use Rattle.layer_sums.proofs.named.numbers_at.Goals as goal

pub slice_bounds-result-end : goal.slice_bounds-result-end
slice_bounds-result-end g c =
    let layers = layers_of (g.S.Shape.complex c.args.shape.now).layers c.args.kind in
    let wide = layer_read (λ (l : Layer). l.width) layers c.args.k no_layer c.layer_width-width.result c.requires.there
    c.layer_width-width.ensures in
    let ends = ends_within layers c.args.k no_layer c.requires.there in
    let fits : c.offset-start.result + c.layer_width-width.result ≤ length c.args.row.now =
    omega (arith, c.offset-start.ensures, c.requires.wide) in
    search rules

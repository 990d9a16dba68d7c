use Rattle.std.proofs.Common.{◌≡◌, ◌∙◌, ◌<◌, ◌++◌, ◌∷◌, [], List, ℤ, length, take, sym, ap, arith}
use Rattle.std.proofs.lemmas.List.{take_all}
use Rattle.cust_data.specs.Layers.{Layer, total}
use Rattle.mesh_model.specs.Complex.{uv_layer}
use Rattle.mesh_model.specs.Values.{row_given, numbers_for}
use Rattle.mesh_model.proofs.GivenRows.{AreGiven, given_one, length-row_given, row_given-more, total-take, layer-at}
use Rattle.mesh_model.proofs.draft_rows.corner_row.Goals as goal

pub push_corner_numbers-requires-clause-room : goal.push_corner_numbers-requires-clause-room
push_corner_numbers-requires-clause-room c =
    let given : List (Layer × List ℤ) = ((uv_layer, c.args.uv.now) ∷ []) in
    let are : AreGiven given = given_one uv_layer c.args.uv.now c.requires.two in
    let layers = c.args.layers.now.layers in
    let less : c.loop-k.k < length layers = omega arith in
    let same : c.loop-k.row ≡ row_given given (take c.loop-k.k layers) = c.loop-k.invariant in
    let long : length c.loop-k.row ≡ total (take c.loop-k.k layers) = ap length same
    ∙ length-row_given given (take c.loop-k.k layers) are in
    let room = total-take layers c.loop-k.k less c.requires.layers in
    omega arith

pub loop-k-preserved : goal.loop-k-preserved
loop-k-preserved c =
    let given : List (Layer × List ℤ) = ((uv_layer, c.args.uv.now) ∷ []) in
    let layers = c.args.layers.now.layers in
    let less : c.loop-k.k < length layers = omega arith in
    let same : c.loop-k.row ≡ row_given given (take c.loop-k.k layers) = c.loop-k.invariant in
    let l = layer-at layers c.loop-k.k less in
    c.push_corner_numbers.ensures l.0 l.1 ∙ ap (λ (r : List ℤ). r ++ numbers_for given l.0) c.loop-k.invariant
    ∙ sym (row_given-more given layers c.loop-k.k l.0 less l.1)

pub returns-clause-wide : goal.returns-clause-wide
returns-clause-wide c =
    let given : List (Layer × List ℤ) = ((uv_layer, c.args.uv.now) ∷ []) in
    let layers = c.args.layers.now.layers in
    let whole : take c.loop-k.k layers ≡ layers = take_all c.loop-k.k layers (omega arith) in
    ap length (c.loop-k.invariant ∙ ap (row_given given) whole)
    ∙ length-row_given given layers (given_one uv_layer c.args.uv.now c.requires.two)

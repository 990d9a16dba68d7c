use Rattle.std.proofs.Common.{arith, rules}
use Rattle.cust_data.specs.Layers.{total}
use Rattle.mesh_model.specs.Table.{at}
use Rattle.mesh_model.specs.declared.records.VertRec.{VertRec}
use Rattle.mesh_model.proofs.GivenRows.{total-few}
use Rattle.mesh_model.proofs.Copies.{told-long, told-more, told-all}
use Rattle.mesh_model.proofs.copying.vert_row.Goals as goal

pub push-requires : goal.push-requires
push-requires g c =
    let whole = g.S.Shape.complex c.args.shape.now in
    let layers = whole.layers.verts in
    let long = told-long (λ (r : VertRec). r.vals) (at whole.verts c.args.v.0) c.loop-k.k (total layers) c.loop-k.row
    (λ r is. (c.requires.linked.verts c.args.v.0 r is).vals) (omega (arith, c.width-k-end.ensures))
    c.loop-k.invariant in
    let few = total-few layers c.requires.linked.layers.verts in
    omega (arith, c.width-k-end.ensures)

pub loop-k-preserved : goal.loop-k-preserved
loop-k-preserved g c =
    let whole = g.S.Shape.complex c.args.shape.now in
    let more = told-more (λ (r : VertRec). r.vals) (at whole.verts c.args.v.0)
    c.loop-k.k c.loop-k.row c.vert_value.result c.vert_value.ensures c.loop-k.invariant in
    rw c.push.ensures (search (rules, more))

pub returns : goal.returns
returns g c =
    let whole = g.S.Shape.complex c.args.shape.now in
    told-all (λ (r : VertRec). r.vals) (at whole.verts c.args.v.0) c.loop-k.k (total whole.layers.verts) c.loop-k.row
    (λ r is. (c.requires.linked.verts c.args.v.0 r is).vals) (omega (arith, c.width-k-end.ensures))
    c.loop-k.invariant

use Rattle.std.proofs.Common.{arith, rules}
use Rattle.cust_data.specs.Layers.{total}
use Rattle.mesh_model.specs.Table.{at}
use Rattle.mesh_model.specs.declared.records.FaceRec.{FaceRec}
use Rattle.mesh_model.proofs.GivenRows.{total-few}
use Rattle.mesh_model.proofs.Copies.{told-long, told-more, told-all}
use Rattle.mesh_model.proofs.copying.face_row.Goals as goal

pub push-requires : goal.push-requires
push-requires g c =
    let whole = g.S.Shape.complex c.args.shape.now in
    let layers = whole.layers.faces in
    let long = told-long (λ (r : FaceRec). r.vals) (at whole.faces c.args.f.0) c.loop-k.k (total layers) c.loop-k.row
    (λ r is. (c.requires.linked.faces c.args.f.0 r is).vals) (omega (arith, c.width-k-end.ensures))
    c.loop-k.invariant in
    let few = total-few layers c.requires.linked.layers.faces in
    omega (arith, c.width-k-end.ensures)

pub loop-k-preserved : goal.loop-k-preserved
loop-k-preserved g c =
    let whole = g.S.Shape.complex c.args.shape.now in
    let more = told-more (λ (r : FaceRec). r.vals) (at whole.faces c.args.f.0)
    c.loop-k.k c.loop-k.row c.face_value.result c.face_value.ensures c.loop-k.invariant in
    rw c.push.ensures (search (rules, more))

pub returns : goal.returns
returns g c =
    let whole = g.S.Shape.complex c.args.shape.now in
    told-all (λ (r : FaceRec). r.vals) (at whole.faces c.args.f.0) c.loop-k.k (total whole.layers.faces) c.loop-k.row
    (λ r is. (c.requires.linked.faces c.args.f.0 r is).vals) (omega (arith, c.width-k-end.ensures))
    c.loop-k.invariant

use Rattle.std.proofs.Common.{◌≡◌, List, length, ap, arith}
use Rattle.mesh_model.specs.declared.names.VertName.{VertName}
use Rattle.mesh_model.specs.declared.names.EdgeName.{EdgeName}
use Rattle.mesh_model.specs.declared.names.FaceName.{FaceName}
use Rattle.mesh_model.specs.declared.records.Counters.{Counters}
use Rattle.mesh_core.specs.Seen.{now}
use Rattle.op_copies.proofs.Counts.{few_live}
use Rattle.op_copies.proofs.Splits.{counted_split}
use Rattle.op_copies.proofs.counting.counters_split_off.Goals as goal

pub overflow_cast-result : goal.overflow_cast-result
overflow_cast-result c =
    let few = few_live (λ (v : VertName). v.0) (now c.args.mesh.now).verts c.args.set.now.verts
    c.verts.ensures.rising c.requires.live.verts in
    let same = ap (λ (n : Counters). n.verts) c.counters-before.ensures.counters in
    let long : length c.verts.result.now ≡ length c.args.set.now.verts =
    ap (λ (xs : List VertName). length xs) c.verts.ensures.names in
    let most = c.requires.valid.limits.verts in
    omega arith

pub overflow_add-result : goal.overflow_add-result
overflow_add-result c =
    let few = few_live (λ (v : VertName). v.0) (now c.args.mesh.now).verts c.args.set.now.verts
    c.verts.ensures.rising c.requires.live.verts in
    let same = ap (λ (n : Counters). n.verts) c.counters-before.ensures.counters in
    let long : length c.verts.result.now ≡ length c.args.set.now.verts =
    ap (λ (xs : List VertName). length xs) c.verts.ensures.names in
    let most = c.requires.valid.limits.verts in
    omega arith

pub overflow_cast-result-2 : goal.overflow_cast-result-2
overflow_cast-result-2 c =
    let few = few_live (λ (e : EdgeName). e.0) (now c.args.mesh.now).edges c.args.set.now.edges
    c.edges.ensures.rising c.requires.live.edges in
    let same = ap (λ (n : Counters). n.edges) c.counters-before.ensures.counters in
    let long : length c.edges.result.now ≡ length c.args.set.now.edges =
    ap (λ (xs : List EdgeName). length xs) c.edges.ensures.names in
    let most = c.requires.valid.limits.edges in
    omega arith

pub overflow_add-result-2 : goal.overflow_add-result-2
overflow_add-result-2 c =
    let few = few_live (λ (e : EdgeName). e.0) (now c.args.mesh.now).edges c.args.set.now.edges
    c.edges.ensures.rising c.requires.live.edges in
    let same = ap (λ (n : Counters). n.edges) c.counters-before.ensures.counters in
    let long : length c.edges.result.now ≡ length c.args.set.now.edges =
    ap (λ (xs : List EdgeName). length xs) c.edges.ensures.names in
    let most = c.requires.valid.limits.edges in
    omega arith

pub overflow_cast-result-3 : goal.overflow_cast-result-3
overflow_cast-result-3 c =
    let few = few_live (λ (f : FaceName). f.0) (now c.args.mesh.now).faces c.args.set.now.faces
    c.faces.ensures.rising c.requires.live.faces in
    let same = ap (λ (n : Counters). n.faces) c.counters-before.ensures.counters in
    let long : length c.faces.result.now ≡ length c.args.set.now.faces =
    ap (λ (xs : List FaceName). length xs) c.faces.ensures.names in
    let most = c.requires.valid.limits.faces in
    omega arith

pub overflow_add-result-3 : goal.overflow_add-result-3
overflow_add-result-3 c =
    let few = few_live (λ (f : FaceName). f.0) (now c.args.mesh.now).faces c.args.set.now.faces
    c.faces.ensures.rising c.requires.live.faces in
    let same = ap (λ (n : Counters). n.faces) c.counters-before.ensures.counters in
    let long : length c.faces.result.now ≡ length c.args.set.now.faces =
    ap (λ (xs : List FaceName). length xs) c.faces.ensures.names in
    let most = c.requires.valid.limits.faces in
    omega arith

pub returns : goal.returns
returns c = counted_split (now c.args.mesh.now) c.args.set.now c.counters-before.result (length c.verts.result.now)
    (length c.edges.result.now) (length c.faces.result.now) c.requires.closed c.requires.live
    c.counters-before.ensures.counters (ap (λ (xs : List VertName). length xs) c.verts.ensures.names)
    (ap (λ (xs : List EdgeName). length xs) c.edges.ensures.names)
    (ap (λ (xs : List FaceName). length xs) c.faces.ensures.names)

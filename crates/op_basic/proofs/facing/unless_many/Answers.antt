use Rattle.std.proofs.Common.{ap, ◌∙◌, arith}
use Rattle.mesh_model.specs.Refusals.{limit_passed, refused_of}
use Rattle.mesh_model.specs.declared.records.Counters.{Counters}
use Rattle.mesh_model.specs.declared.refusal.Why.TheVariants.{TooMany}
use Rattle.mesh_core.specs.Seen.{now}
use Rattle.op_basic.proofs.FaceMay.{many_told}
use Rattle.op_basic.proofs.facing.unless_many.Goals as goal

pub overflow_add-edges : goal.overflow_add-edges
overflow_add-edges c =
    let few = c.requires.valid.limits.edges in
    let some = c.count_missing-missing.ensures.few in
    let most = c.requires.most in
    let same = ap (λ (n : Counters). n.edges) c.counters-before.ensures.counters in
    omega arith

pub overflow_add-faces : goal.overflow_add-faces
overflow_add-faces c =
    let few = c.requires.valid.limits.faces in
    let same = ap (λ (n : Counters). n.faces) c.counters-before.ensures.counters in
    omega arith

pub overflow_add-corners : goal.overflow_add-corners
overflow_add-corners c =
    let few = c.requires.valid.limits.corners in
    let most = c.requires.most in
    let same = ap (λ (n : Counters). n.corners) c.counters-before.ensures.counters in
    omega arith

pub returns : goal.returns
returns c = c.unless_too_many.ensures
    ∙ ap (λ (n : Counters). refused_of TooMany (limit_passed n))
    (many_told (now c.args.mesh.now) c.args.verts.now c.counters-before.result c.count_missing-missing.result
    c.requires.least c.requires.distinct c.counters-before.ensures.counters c.count_missing-missing.ensures.count)

use Rattle.std.proofs.Common.{ap, ◌∙◌, arith}
use Rattle.std.proofs.lemmas.List.{take_all}
use Rattle.mesh_core.specs.Seen.{now}
use Rattle.mesh_copies.specs.CopyingSteps.{corners_in}
use Rattle.mesh_copies.proofs.Copied.{no_face}
use Rattle.mesh_copies.proofs.Copyings.{sum-next}
use Rattle.op_copies.proofs.Counts.{sum-more, corners_few}
use Rattle.op_copies.proofs.counting.corners_in.Goals as goal

pub overflow_add-count : goal.overflow_add-count
overflow_add-count c =
    let fs = c.args.faces.now in
    let next = sum-next (now c.args.mesh.now) fs c.loop-f.f-index no_face c.loop-f-test.true in
    let few = corners_few (now c.args.mesh.now) fs c.requires.rising c.requires.live in
    let most = c.requires.valid.limits.corners in
    omega (arith, c.loop-f.invariant, c.corner_count-count.ensures, next, few, most)

pub loop-f-preserved : goal.loop-f-preserved
loop-f-preserved c =
    let more = sum-more (now c.args.mesh.now) c.args.faces.now c.loop-f.f-index no_face c.loop-f-test.true in
    omega (arith, c.loop-f.invariant, c.corner_count-count.ensures, more)

pub returns : goal.returns
returns c = c.loop-f.invariant
    ∙ ap (corners_in (now c.args.mesh.now)) (take_all c.loop-f.f-index c.args.faces.now c.loop-f-test.false)

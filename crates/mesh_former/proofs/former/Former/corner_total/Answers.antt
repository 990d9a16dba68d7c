use Rattle.std.proofs.Common.{◌≤◌, ◌<◌, ◌+◌, length, ◌∙◌, arith}
use Rattle.mesh_model.specs.Complex.{corner_sum}
use Rattle.mesh_model.specs.declared.limits.TheConstants.{MAX_CORNERS}
use Rattle.mesh_former.proofs.Sums.{sum_more, sum_within, sum_whole}
use Rattle.mesh_former.proofs.former.Former.corner_total.Goals as goal

pub overflow_add-corners : goal.overflow_add-corners
overflow_add-corners g c =
    let few : corner_sum c.args.self.now.faces ≤ MAX_CORNERS = rw (← c.self.view_is) c.self.invariant.corners in
    let less : c.loop-f.f < length c.args.self.now.faces = omega (arith, c.next_face-f-end.ensures) in
    let more = sum_more c.args.self.now.faces c.loop-f.f less in
    let within = sum_within c.args.self.now.faces (c.loop-f.f + 1) in
    omega (arith, few, more, within, c.loop-f.invariant, c.corners_at-corners.ensures)

pub loop-f-preserved : goal.loop-f-preserved
loop-f-preserved g c =
    let less : c.loop-f.f < length c.args.self.now.faces = omega (arith, c.next_face-f-end.ensures) in
    let more = sum_more c.args.self.now.faces c.loop-f.f less in
    omega (arith, more, c.loop-f.invariant, c.corners_at-corners.ensures)

pub returns : goal.returns
returns g c = c.loop-f.invariant ∙ sum_whole c.args.self.now.faces c.loop-f.f
    (omega (arith, c.next_face-f-end.ensures))

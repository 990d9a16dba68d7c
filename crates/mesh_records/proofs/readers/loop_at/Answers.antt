use Rattle.std.proofs.Common.{Option, is_some, sym, ap, ◌∙◌}
use Rattle.raw_pool.specs.declared.pool.Slot.{Slot}
use Rattle.mesh_cycles.specs.Found.{loops_in}
use Rattle.mesh_cycles.specs.Left.{loops_in_left}
use Rattle.mesh_records.proofs.Walks.{nth_given, is_within}
use Rattle.mesh_records.proofs.readers.loop_at.Goals as goal

pub unwrap-requires : goal.unwrap-requires
unwrap-requires c =
    let all = loops_in c.args.st.now c.args.f.0 in
    let given = nth_given loops_in_left c.corners_of_face.result c.nth.new.self c.args.i c.nth.result all
    c.corners_of_face.ensures.items c.nth.ensures.ran in
    ap (λ (o : Option Slot). is_some o) given ∙ is_within all c.args.i c.requires.within

pub returns : goal.returns
returns c =
    let all = loops_in c.args.st.now c.args.f.0 in
    sym (nth_given loops_in_left c.corners_of_face.result c.nth.new.self c.args.i c.nth.result all
    c.corners_of_face.ensures.items c.nth.ensures.ran) ∙ c.unwrap.ensures

use Rattle.std.proofs.Common.{rules, ◌≡◌, List, ap, ◌∙◌}
use Rattle.std.specs.List.{find}
use Rattle.raw_pool.specs.declared.pool.Slot.{Slot}
use Rattle.link_ring.proofs.Members.{member_of}
use Rattle.mesh_cycles.specs.Found.{loops_in, goes_along}
use Rattle.mesh_cycles.specs.Left.{loops_in_left}
use Rattle.mesh_cycles.proofs.Around.{in_live}
use Rattle.mesh_cycles.proofs.along_edge.first_along.Goals as goal

pub loop-l-init : goal.loop-l-init
loop-l-init c =
    let st = c.args.st.now in
    let same : loops_in_left c.into_iter-l-iterator.result ≡ loops_in st c.args.f.0 =
    ap loops_in_left c.into_iter-l-iterator.ensures.into_iter_gives ∙ c.corners_of_face-l-items.ensures.items in
    record {
      ready = search rules;
      live = λ l h. in_live st c.requires.cycles c.args.f.0 l (member_of l h same);
      same = ap (λ (ls : List Slot). find (goes_along st c.args.e.0) ls) same;
    }

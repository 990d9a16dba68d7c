use Rattle.std.proofs.Common.{ℕ, eqb, List, ap, ◌∙◌, refl}
use Rattle.std.specs.List.{list_any}
use Rattle.mesh_core.specs.Seen.{now}
use Rattle.mesh_passes.specs.Closing.{edges_reached}
use Rattle.mesh_passes.proofs.Reached.{edges_closed}
use Rattle.mesh_passes.proofs.closing.edges_of.Goals as goal

pub returns : goal.returns
returns c =
    c.in_ok-edges.ensures ∙ rw c.deref.ensures.value
    (edges_closed (now c.args.mesh.now) c.args.set.now c.risen-numbers.result.items c.counters.ensures.linked c.requires
    c.risen-numbers.ensures.rising
    (λ n. c.risen-numbers.ensures.members n
    ∙ ap (list_any (λ (m : ℕ). eqb m n)) (c.in_ok-numbers.ensures
    ∙ rw (c.edges.ensures.names, c.faces.ensures.names) refl)))

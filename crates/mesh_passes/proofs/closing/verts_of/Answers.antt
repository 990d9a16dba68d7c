use Rattle.std.proofs.Common.{◌≡◌, ℕ, eqb, List, sym, ap, ◌∙◌, refl, subst, All}
use Rattle.std.specs.List.{list_any}
use Rattle.mesh_model.specs.Table.{IsThere}
use Rattle.mesh_model.specs.declared.names.EdgeName.{EdgeName}
use Rattle.mesh_model.proofs.Closures.{live-closure}
use Rattle.mesh_core.specs.Seen.{now}
use Rattle.mesh_passes.proofs.Reached.{verts_closed}
use Rattle.mesh_passes.proofs.closing.verts_of.Goals as goal

pub verts_reached-requires : goal.verts_reached-requires
verts_reached-requires c =
    subst (λ (es : List EdgeName). All (λ (e : EdgeName). IsThere (now c.args.mesh.now).edges e.0) es)
    (sym c.requires.edges)
    (live-closure (now c.args.mesh.now) c.args.set.now c.counters.ensures.linked c.requires.live).edges

pub returns : goal.returns
returns c =
    c.in_ok-verts.ensures ∙ rw c.deref.ensures.value
    (verts_closed (now c.args.mesh.now) c.args.set.now c.risen-numbers.result.items c.counters.ensures.linked
    c.requires.live c.risen-numbers.ensures.rising
    (λ n. c.risen-numbers.ensures.members n
    ∙ ap (list_any (λ (m : ℕ). eqb m n)) (c.in_ok-numbers.ensures
    ∙ rw (c.verts.ensures.names, c.requires.edges) refl)))

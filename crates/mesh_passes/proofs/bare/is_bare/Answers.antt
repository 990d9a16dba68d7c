use Rattle.std.proofs.Common.{sym, ◌∙◌}
use Rattle.mesh_core.specs.Left.{edges_at_left}
use Rattle.mesh_passes.proofs.Baring.{bare_none, bare_some, first_none, first_some}
use Rattle.mesh_passes.proofs.bare.is_bare.Goals as goal

pub returns-in-None : goal.returns-in-None
returns-in-None c = sym (bare_none c.args.mesh.now c.args.v c.cycles_hold.ensures c.requires
    (sym c.edges_of_vert.ensures.items ∙ first_none edges_at_left c.edges_of_vert.result c.next.new.self c.next.result
    c.next.ensures.steps c.in-None.is))

pub returns-in-Some : goal.returns-in-Some
returns-in-Some c = sym (bare_some c.args.mesh.now c.args.v _ _ c.cycles_hold.ensures c.requires
    (sym c.edges_of_vert.ensures.items ∙ first_some edges_at_left c.edges_of_vert.result c.next.new.self c.next.result _
    c.next.ensures.steps c.in-Some.is))

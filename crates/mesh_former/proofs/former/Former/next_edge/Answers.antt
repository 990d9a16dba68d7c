use Rattle.std.proofs.Common.{ℕ, List, sym, ap, ◌∙◌}
use Rattle.std.specs.Prelude.{slice_index_or}
use Rattle.mesh_model.proofs.Leads.{length-led_back}
use Rattle.mesh_former.proofs.former.Former.next_edge.Goals as goal

pub returns : goal.returns
returns g c =
    let p = c.self.inside.past.now.changes in
    let n = g.S.Shape.complex c.self.inside.shape.now in
    rw (← c.self.view_is) (ap (λ (ns : List ℕ). slice_index_or ns 1 0) c.counters.ensures
    ∙ sym (length-led_back p.next.edges p.edges n.edges))

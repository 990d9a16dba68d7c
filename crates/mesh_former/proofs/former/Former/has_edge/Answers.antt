use Rattle.std.proofs.Common.{◌≡◌, ◌<◌, length, not, sym, ap, ◌∙◌, arith}
use Rattle.mesh_model.specs.ChangeSetNotes.{led_back}
use Rattle.mesh_model.proofs.Leads.{length-led_back}
use Rattle.mesh_former.proofs.There.{there_noted, there_plain}
use Rattle.mesh_former.proofs.former.Former.has_edge.Goals as goal

pub returns-then-has : goal.returns-then-has
returns-then-has g c =
    let p = c.self.inside.past.now.changes in
    let n = g.S.Shape.complex c.self.inside.shape.now in
    let long : c.next_edge.result ≡ length (led_back p.next.edges p.edges n.edges) = rw (← c.self.view_is) at c.next_edge.ensures in
    let less : c.args.e.0 < p.next.edges =
    omega (arith, long, length-led_back p.next.edges p.edges n.edges, c.if-e-next_edge.false) in
    rw (← c.self.view_is) (ap not c.was_absent.ensures
    ∙ sym (there_noted p.next.edges p.edges n.edges c.args.e.0 less (sym c.has.ensures ∙ c.if-has.true)))

pub returns : goal.returns
returns g c =
    let p = c.self.inside.past.now.changes in
    let n = g.S.Shape.complex c.self.inside.shape.now in
    let long : c.next_edge.result ≡ length (led_back p.next.edges p.edges n.edges) = rw (← c.self.view_is) at c.next_edge.ensures in
    let less : c.args.e.0 < p.next.edges =
    omega (arith, long, length-led_back p.next.edges p.edges n.edges, c.if-e-next_edge.false) in
    rw (← c.self.view_is) (c.has-2.ensures
    ∙ sym (there_plain p.next.edges p.edges n.edges c.args.e.0 less (sym c.has.ensures ∙ c.if-has.false)))

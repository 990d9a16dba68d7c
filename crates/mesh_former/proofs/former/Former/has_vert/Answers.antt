use Rattle.std.proofs.Common.{◌≡◌, ◌<◌, length, not, sym, ap, ◌∙◌, arith}
use Rattle.mesh_model.specs.ChangeSetNotes.{led_back}
use Rattle.mesh_model.proofs.Leads.{length-led_back}
use Rattle.mesh_former.proofs.There.{there_noted, there_plain}
use Rattle.mesh_former.proofs.former.Former.has_vert.Goals as goal

pub returns-then-has : goal.returns-then-has
returns-then-has g c =
    let p = c.self.inside.past.now.changes in
    let n = g.S.Shape.complex c.self.inside.shape.now in
    let long : c.next_vert.result ≡ length (led_back p.next.verts p.verts n.verts) = rw (← c.self.view_is) at c.next_vert.ensures in
    let less : c.args.v.0 < p.next.verts =
    omega (arith, long, length-led_back p.next.verts p.verts n.verts, c.if-v-next_vert.false) in
    rw (← c.self.view_is) (ap not c.was_absent.ensures
    ∙ sym (there_noted p.next.verts p.verts n.verts c.args.v.0 less (sym c.has.ensures ∙ c.if-has.true)))

pub returns : goal.returns
returns g c =
    let p = c.self.inside.past.now.changes in
    let n = g.S.Shape.complex c.self.inside.shape.now in
    let long : c.next_vert.result ≡ length (led_back p.next.verts p.verts n.verts) = rw (← c.self.view_is) at c.next_vert.ensures in
    let less : c.args.v.0 < p.next.verts =
    omega (arith, long, length-led_back p.next.verts p.verts n.verts, c.if-v-next_vert.false) in
    rw (← c.self.view_is) (c.has-2.ensures
    ∙ sym (there_plain p.next.verts p.verts n.verts c.args.v.0 less (sym c.has.ensures ∙ c.if-has.false)))

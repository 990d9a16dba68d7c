use Rattle.std.proofs.Common.{length, sym, ap, ◌∙◌, Option, is_some}
use Rattle.mesh_model.specs.Table.{IsThere}
use Rattle.mesh_model.specs.Complex.{corners_of}
use Rattle.mesh_model.specs.ChangeSetNotes.{led_back}
use Rattle.mesh_model.specs.declared.records.FaceRec.{FaceRec}
use Rattle.mesh_former.proofs.There.{is_noted, is_plain}
use Rattle.mesh_former.proofs.former_shape.FormerShape.corner_count.Goals as goal

pub corner_count-requires : goal.corner_count-requires
corner_count-requires g c =
    let p = c.self.inside.past.now.changes in
    let n = g.S.Shape.complex c.self.inside.shape.now in
    let there : IsThere (led_back p.next.faces p.faces n.faces) c.args.f.0 =
    rw (← c.self.view_is) at c.requires in
    let is = is_noted p.next.faces p.faces n.faces c.args.f.0 there (sym c.has.ensures ∙ c.if-has.true) in
    sym (ap is_some is) ∙ there

pub corner_count-requires-else-has : goal.corner_count-requires-else-has
corner_count-requires-else-has g c =
    let p = c.self.inside.past.now.changes in
    let n = g.S.Shape.complex c.self.inside.shape.now in
    let there : IsThere (led_back p.next.faces p.faces n.faces) c.args.f.0 =
    rw (← c.self.view_is) at c.requires in
    let is = is_plain p.next.faces p.faces n.faces c.args.f.0 there (sym c.has.ensures ∙ c.if-has.false) in
    sym (ap is_some is) ∙ there

pub returns-then-has : goal.returns-then-has
returns-then-has g c =
    let p = c.self.inside.past.now.changes in
    let n = g.S.Shape.complex c.self.inside.shape.now in
    let there : IsThere (led_back p.next.faces p.faces n.faces) c.args.f.0 =
    rw (← c.self.view_is) at c.requires in
    let is = is_noted p.next.faces p.faces n.faces c.args.f.0 there (sym c.has.ensures ∙ c.if-has.true) in
    rw (← c.self.view_is) (c.corner_count.ensures ∙ sym (ap (λ (o : Option FaceRec). length (corners_of o)) is))

pub returns-else-has : goal.returns-else-has
returns-else-has g c =
    let p = c.self.inside.past.now.changes in
    let n = g.S.Shape.complex c.self.inside.shape.now in
    let there : IsThere (led_back p.next.faces p.faces n.faces) c.args.f.0 =
    rw (← c.self.view_is) at c.requires in
    let is = is_plain p.next.faces p.faces n.faces c.args.f.0 there (sym c.has.ensures ∙ c.if-has.false) in
    rw (← c.self.view_is) (c.corner_count-else-has.ensures ∙ sym (ap (λ (o : Option FaceRec). length (corners_of o)) is))

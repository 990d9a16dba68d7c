use Rattle.std.proofs.Common.{sym, ap, ◌∙◌, Option, is_some}
use Rattle.std.specs.Option.{option_map}
use Rattle.mesh_model.specs.Table.{IsThere}
use Rattle.mesh_model.specs.ChangeSetNotes.{led_back}
use Rattle.mesh_model.specs.declared.records.VertRec.{VertRec}
use Rattle.mesh_former.proofs.There.{is_noted, is_plain}
use Rattle.mesh_former.proofs.former_shape.FormerShape.point.Goals as goal

pub point-requires : goal.point-requires
point-requires g c =
    let p = c.self.inside.past.now.changes in
    let n = g.S.Shape.complex c.self.inside.shape.now in
    let there : IsThere (led_back p.next.verts p.verts n.verts) c.args.v.0 =
    rw (← c.self.view_is) at c.requires in
    let is = is_noted p.next.verts p.verts n.verts c.args.v.0 there (sym c.has.ensures ∙ c.if-has.true) in
    sym (ap is_some is) ∙ there

pub point-requires-else-has : goal.point-requires-else-has
point-requires-else-has g c =
    let p = c.self.inside.past.now.changes in
    let n = g.S.Shape.complex c.self.inside.shape.now in
    let there : IsThere (led_back p.next.verts p.verts n.verts) c.args.v.0 =
    rw (← c.self.view_is) at c.requires in
    let is = is_plain p.next.verts p.verts n.verts c.args.v.0 there (sym c.has.ensures ∙ c.if-has.false) in
    sym (ap is_some is) ∙ there

pub returns-then-has : goal.returns-then-has
returns-then-has g c =
    let p = c.self.inside.past.now.changes in
    let n = g.S.Shape.complex c.self.inside.shape.now in
    let there : IsThere (led_back p.next.verts p.verts n.verts) c.args.v.0 =
    rw (← c.self.view_is) at c.requires in
    let is = is_noted p.next.verts p.verts n.verts c.args.v.0 there (sym c.has.ensures ∙ c.if-has.true) in
    rw (← c.self.view_is) (ap (λ (o : Option VertRec). option_map (λ (r : VertRec). r.point) o) is ∙ c.point.ensures)

pub returns-else-has : goal.returns-else-has
returns-else-has g c =
    let p = c.self.inside.past.now.changes in
    let n = g.S.Shape.complex c.self.inside.shape.now in
    let there : IsThere (led_back p.next.verts p.verts n.verts) c.args.v.0 =
    rw (← c.self.view_is) at c.requires in
    let is = is_plain p.next.verts p.verts n.verts c.args.v.0 there (sym c.has.ensures ∙ c.if-has.false) in
    rw (← c.self.view_is) (ap (λ (o : Option VertRec). option_map (λ (r : VertRec). r.point) o) is ∙ c.point-else-has.ensures)

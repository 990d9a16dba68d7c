use Rattle.std.proofs.Common.{sym, ap, ◌∙◌, [], ◌∷◌, Option, is_some}
use Rattle.std.specs.Option.{option_map}
use Rattle.mesh_model.specs.Table.{IsThere}
use Rattle.mesh_model.specs.ChangeSetNotes.{led_back}
use Rattle.mesh_model.specs.declared.records.EdgeRec.{EdgeRec}
use Rattle.mesh_former.proofs.There.{is_noted, is_plain}
use Rattle.mesh_former.proofs.former_shape.FormerShape.ends.Goals as goal

pub ends-requires : goal.ends-requires
ends-requires g c =
    let p = c.self.inside.past.now.changes in
    let n = g.S.Shape.complex c.self.inside.shape.now in
    let there : IsThere (led_back p.next.edges p.edges n.edges) c.args.e.0 =
    rw (← c.self.view_is) at c.requires in
    let is = is_noted p.next.edges p.edges n.edges c.args.e.0 there (sym c.has.ensures ∙ c.if-has.true) in
    sym (ap is_some is) ∙ there

pub ends-requires-else-has : goal.ends-requires-else-has
ends-requires-else-has g c =
    let p = c.self.inside.past.now.changes in
    let n = g.S.Shape.complex c.self.inside.shape.now in
    let there : IsThere (led_back p.next.edges p.edges n.edges) c.args.e.0 =
    rw (← c.self.view_is) at c.requires in
    let is = is_plain p.next.edges p.edges n.edges c.args.e.0 there (sym c.has.ensures ∙ c.if-has.false) in
    sym (ap is_some is) ∙ there

pub returns-then-has : goal.returns-then-has
returns-then-has g c =
    let p = c.self.inside.past.now.changes in
    let n = g.S.Shape.complex c.self.inside.shape.now in
    let there : IsThere (led_back p.next.edges p.edges n.edges) c.args.e.0 =
    rw (← c.self.view_is) at c.requires in
    let is = is_noted p.next.edges p.edges n.edges c.args.e.0 there (sym c.has.ensures ∙ c.if-has.true) in
    rw (← c.self.view_is) (ap (λ (o : Option EdgeRec). option_map (λ (r : EdgeRec). r.a ∷ r.b ∷ []) o) is ∙ c.ends.ensures)

pub returns-else-has : goal.returns-else-has
returns-else-has g c =
    let p = c.self.inside.past.now.changes in
    let n = g.S.Shape.complex c.self.inside.shape.now in
    let there : IsThere (led_back p.next.edges p.edges n.edges) c.args.e.0 =
    rw (← c.self.view_is) at c.requires in
    let is = is_plain p.next.edges p.edges n.edges c.args.e.0 there (sym c.has.ensures ∙ c.if-has.false) in
    rw (← c.self.view_is) (ap (λ (o : Option EdgeRec). option_map (λ (r : EdgeRec). r.a ∷ r.b ∷ []) o) is ∙ c.ends-else-has.ensures)

use Rattle.std.proofs.Common.{◌<◌, ℕ, sym, ap, ◌∙◌, subst, Option, is_some, w64, rules, FitsSigned}
use Rattle.std.specs.Prelude.{slice_get}
use Rattle.std.specs.Option.{option_map}
use Rattle.std.proofs.lemmas.Int.{to_z-of_z}
use Rattle.mesh_model.specs.Table.{at, IsThere}
use Rattle.mesh_model.specs.Complex.{width}
use Rattle.mesh_model.specs.ChangeSetNotes.{led_back}
use Rattle.mesh_model.specs.declared.names.Kind.TheVariants.{Edges}
use Rattle.mesh_model.specs.declared.records.EdgeRec.{EdgeRec}
use Rattle.mesh_model.proofs.Tables.{stands}
use Rattle.mesh_former.proofs.There.{is_noted, is_plain}
use Rattle.mesh_former.proofs.former_shape.FormerShape.edge_value.Goals as goal

pub edge_value-requires-clause-there : goal.edge_value-requires-clause-there
edge_value-requires-clause-there g c =
    let p = c.self.inside.past.now.changes in
    let n = g.S.Shape.complex c.self.inside.shape.now in
    let there : IsThere (led_back p.next.edges p.edges n.edges) c.args.e.0 =
    rw (← c.self.view_is) at c.requires.there in
    let is = is_noted p.next.edges p.edges n.edges c.args.e.0 there (sym c.has.ensures ∙ c.if-has.true) in
    sym (ap is_some is) ∙ there

pub edge_value-requires-clause-within : goal.edge_value-requires-clause-within
edge_value-requires-clause-within g c =
    let p = c.self.inside.past.now.changes in
    let n = g.S.Shape.complex c.self.inside.shape.now in
    let there : IsThere (led_back p.next.edges p.edges n.edges) c.args.e.0 =
    rw (← c.self.view_is) at c.requires.there in
    let is = is_noted p.next.edges p.edges n.edges c.args.e.0 there (sym c.has.ensures ∙ c.if-has.true) in
    let s = stands (at (led_back p.next.edges p.edges n.edges) c.args.e.0) there in
    let linked = c.self.invariant.linked.edges c.args.e.0 s.0 s.1 in
    let wide = c.rows_fit.ensures.edges c.args.e.0 s.0 (sym is ∙ s.1) in
    let less : c.args.k < width n Edges = rw (← c.self.view_is) at c.requires.within in
    subst (λ (w : ℕ). c.args.k < w) (sym linked.vals ∙ wide) less

pub edge_value-requires-else-has-clause-there : goal.edge_value-requires-else-has-clause-there
edge_value-requires-else-has-clause-there g c =
    let p = c.self.inside.past.now.changes in
    let n = g.S.Shape.complex c.self.inside.shape.now in
    let there : IsThere (led_back p.next.edges p.edges n.edges) c.args.e.0 =
    rw (← c.self.view_is) at c.requires.there in
    let is = is_plain p.next.edges p.edges n.edges c.args.e.0 there (sym c.has.ensures ∙ c.if-has.false) in
    sym (ap is_some is) ∙ there

pub returns-then-has : goal.returns-then-has
returns-then-has g c =
    let p = c.self.inside.past.now.changes in
    let n = g.S.Shape.complex c.self.inside.shape.now in
    let there : IsThere (led_back p.next.edges p.edges n.edges) c.args.e.0 =
    rw (← c.self.view_is) at c.requires.there in
    let is = is_noted p.next.edges p.edges n.edges c.args.e.0 there (sym c.has.ensures ∙ c.if-has.true) in
    let fits : FitsSigned w64 c.edge_value.result = search rules in
    rw (← c.self.view_is, to_z-of_z w64 c.edge_value.result fits) (ap (λ (o : Option EdgeRec). option_map (λ (r : EdgeRec). slice_get r.vals c.args.k) o) is ∙ c.edge_value.ensures)

pub returns-else-has : goal.returns-else-has
returns-else-has g c =
    let p = c.self.inside.past.now.changes in
    let n = g.S.Shape.complex c.self.inside.shape.now in
    let there : IsThere (led_back p.next.edges p.edges n.edges) c.args.e.0 =
    rw (← c.self.view_is) at c.requires.there in
    let is = is_plain p.next.edges p.edges n.edges c.args.e.0 there (sym c.has.ensures ∙ c.if-has.false) in
    let fits : FitsSigned w64 c.edge_value-else-has.result = search rules in
    rw (← c.self.view_is, to_z-of_z w64 c.edge_value-else-has.result fits) (ap (λ (o : Option EdgeRec). option_map (λ (r : EdgeRec). slice_get r.vals c.args.k) o) is ∙ c.edge_value-else-has.ensures)

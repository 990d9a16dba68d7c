use Rattle.std.proofs.Common.{◌<◌, ℕ, sym, ap, ◌∙◌, subst, Option, is_some, w64, rules, FitsSigned}
use Rattle.std.specs.Prelude.{slice_get}
use Rattle.std.specs.Option.{option_map}
use Rattle.std.proofs.lemmas.Int.{to_z-of_z}
use Rattle.mesh_model.specs.Table.{at, IsThere}
use Rattle.mesh_model.specs.Complex.{width}
use Rattle.mesh_model.specs.ChangeSetNotes.{led_back}
use Rattle.mesh_model.specs.declared.names.Kind.TheVariants.{Verts}
use Rattle.mesh_model.specs.declared.records.VertRec.{VertRec}
use Rattle.mesh_model.proofs.Tables.{stands}
use Rattle.mesh_former.proofs.There.{is_noted, is_plain}
use Rattle.mesh_former.proofs.former_shape.FormerShape.vert_value.Goals as goal

pub vert_value-requires-clause-there : goal.vert_value-requires-clause-there
vert_value-requires-clause-there g c =
    let p = c.self.inside.past.now.changes in
    let n = g.S.Shape.complex c.self.inside.shape.now in
    let there : IsThere (led_back p.next.verts p.verts n.verts) c.args.v.0 =
    rw (← c.self.view_is) at c.requires.there in
    let is = is_noted p.next.verts p.verts n.verts c.args.v.0 there (sym c.has.ensures ∙ c.if-has.true) in
    sym (ap is_some is) ∙ there

pub vert_value-requires-clause-within : goal.vert_value-requires-clause-within
vert_value-requires-clause-within g c =
    let p = c.self.inside.past.now.changes in
    let n = g.S.Shape.complex c.self.inside.shape.now in
    let there : IsThere (led_back p.next.verts p.verts n.verts) c.args.v.0 =
    rw (← c.self.view_is) at c.requires.there in
    let is = is_noted p.next.verts p.verts n.verts c.args.v.0 there (sym c.has.ensures ∙ c.if-has.true) in
    let s = stands (at (led_back p.next.verts p.verts n.verts) c.args.v.0) there in
    let linked = c.self.invariant.linked.verts c.args.v.0 s.0 s.1 in
    let wide = c.rows_fit.ensures.verts c.args.v.0 s.0 (sym is ∙ s.1) in
    let less : c.args.k < width n Verts = rw (← c.self.view_is) at c.requires.within in
    subst (λ (w : ℕ). c.args.k < w) (sym linked.vals ∙ wide) less

pub vert_value-requires-else-has-clause-there : goal.vert_value-requires-else-has-clause-there
vert_value-requires-else-has-clause-there g c =
    let p = c.self.inside.past.now.changes in
    let n = g.S.Shape.complex c.self.inside.shape.now in
    let there : IsThere (led_back p.next.verts p.verts n.verts) c.args.v.0 =
    rw (← c.self.view_is) at c.requires.there in
    let is = is_plain p.next.verts p.verts n.verts c.args.v.0 there (sym c.has.ensures ∙ c.if-has.false) in
    sym (ap is_some is) ∙ there

pub returns-then-has : goal.returns-then-has
returns-then-has g c =
    let p = c.self.inside.past.now.changes in
    let n = g.S.Shape.complex c.self.inside.shape.now in
    let there : IsThere (led_back p.next.verts p.verts n.verts) c.args.v.0 =
    rw (← c.self.view_is) at c.requires.there in
    let is = is_noted p.next.verts p.verts n.verts c.args.v.0 there (sym c.has.ensures ∙ c.if-has.true) in
    let fits : FitsSigned w64 c.vert_value.result = search rules in
    rw (← c.self.view_is, to_z-of_z w64 c.vert_value.result fits) (ap (λ (o : Option VertRec). option_map (λ (r : VertRec). slice_get r.vals c.args.k) o) is ∙ c.vert_value.ensures)

pub returns-else-has : goal.returns-else-has
returns-else-has g c =
    let p = c.self.inside.past.now.changes in
    let n = g.S.Shape.complex c.self.inside.shape.now in
    let there : IsThere (led_back p.next.verts p.verts n.verts) c.args.v.0 =
    rw (← c.self.view_is) at c.requires.there in
    let is = is_plain p.next.verts p.verts n.verts c.args.v.0 there (sym c.has.ensures ∙ c.if-has.false) in
    let fits : FitsSigned w64 c.vert_value-else-has.result = search rules in
    rw (← c.self.view_is, to_z-of_z w64 c.vert_value-else-has.result fits) (ap (λ (o : Option VertRec). option_map (λ (r : VertRec). slice_get r.vals c.args.k) o) is ∙ c.vert_value-else-has.ensures)

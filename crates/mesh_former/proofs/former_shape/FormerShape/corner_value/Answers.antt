use Rattle.std.proofs.Common.{◌<◌, ℕ, length, sym, ap, ◌∙◌, subst, Option, w64, rules, FitsSigned}
use Rattle.std.specs.Prelude.{slice_get}
use Rattle.std.specs.Option.{option_map}
use Rattle.std.proofs.lemmas.Int.{to_z-of_z}
use Rattle.mesh_model.specs.Table.{at, IsThere}
use Rattle.mesh_model.specs.Complex.{corners_of, width}
use Rattle.mesh_model.specs.ChangeSetNotes.{led_back}
use Rattle.mesh_model.specs.declared.names.Kind.TheVariants.{Corners}
use Rattle.mesh_model.specs.declared.records.CornerRec.{CornerRec}
use Rattle.mesh_model.specs.declared.records.FaceRec.{FaceRec}
use Rattle.mesh_model.proofs.Tables.{stands}
use Rattle.mesh_former.proofs.There.{is_noted, is_plain, corner_stands, corners_agree}
use Rattle.mesh_former.specs.Former.{former}
use Rattle.mesh_former.proofs.former_shape.FormerShape.corner_value.Goals as goal

pub corner_value-requires-clause-there : goal.corner_value-requires-clause-there
corner_value-requires-clause-there g c =
    let less : c.args.i < length (corners_of (at (former c.self.inside.past.now (g.S.Shape.complex c.self.inside.shape.now)).faces
    c.args.f.0)) = rw (← c.self.view_is) at c.requires.there in
    let p = c.self.inside.past.now.changes in
    let n = g.S.Shape.complex c.self.inside.shape.now in
    let there : IsThere (led_back p.next.faces p.faces n.faces) c.args.f.0 =
    corner_stands _ c.args.i less in
    let is = is_noted p.next.faces p.faces n.faces c.args.f.0 there (sym c.has.ensures ∙ c.if-has.true) in
    subst (λ (o : Option FaceRec). c.args.i < length (corners_of o)) is less

pub corner_value-requires-clause-within : goal.corner_value-requires-clause-within
corner_value-requires-clause-within g c =
    let less : c.args.i < length (corners_of (at (former c.self.inside.past.now (g.S.Shape.complex c.self.inside.shape.now)).faces
    c.args.f.0)) = rw (← c.self.view_is) at c.requires.there in
    let p = c.self.inside.past.now.changes in
    let n = g.S.Shape.complex c.self.inside.shape.now in
    let there : IsThere (led_back p.next.faces p.faces n.faces) c.args.f.0 =
    corner_stands _ c.args.i less in
    let is = is_noted p.next.faces p.faces n.faces c.args.f.0 there (sym c.has.ensures ∙ c.if-has.true) in
    let s = stands (at (led_back p.next.faces p.faces n.faces) c.args.f.0) there in
    let linked = c.self.invariant.linked.faces c.args.f.0 s.0 s.1 in
    let wide = c.rows_fit.ensures.faces c.args.f.0 s.0 (sym is ∙ s.1) in
    let within : c.args.k < width n Corners = rw (← c.self.view_is) at c.requires.within in
    subst (λ (w : ℕ). c.args.k < w) (corners_agree s.0.corners (former c.self.inside.past.now n)
    c.self.inside.past.now.widths.corners linked.some linked.corners wide.corners) within

pub corner_value-requires-else-has-clause-there : goal.corner_value-requires-else-has-clause-there
corner_value-requires-else-has-clause-there g c =
    let less : c.args.i < length (corners_of (at (former c.self.inside.past.now (g.S.Shape.complex c.self.inside.shape.now)).faces
    c.args.f.0)) = rw (← c.self.view_is) at c.requires.there in
    let p = c.self.inside.past.now.changes in
    let n = g.S.Shape.complex c.self.inside.shape.now in
    let there : IsThere (led_back p.next.faces p.faces n.faces) c.args.f.0 =
    corner_stands _ c.args.i less in
    let is = is_plain p.next.faces p.faces n.faces c.args.f.0 there (sym c.has.ensures ∙ c.if-has.false) in
    subst (λ (o : Option FaceRec). c.args.i < length (corners_of o)) is less

pub returns-then-has : goal.returns-then-has
returns-then-has g c =
    let less : c.args.i < length (corners_of (at (former c.self.inside.past.now (g.S.Shape.complex c.self.inside.shape.now)).faces
    c.args.f.0)) = rw (← c.self.view_is) at c.requires.there in
    let p = c.self.inside.past.now.changes in
    let n = g.S.Shape.complex c.self.inside.shape.now in
    let there : IsThere (led_back p.next.faces p.faces n.faces) c.args.f.0 =
    corner_stands _ c.args.i less in
    let is = is_noted p.next.faces p.faces n.faces c.args.f.0 there (sym c.has.ensures ∙ c.if-has.true) in
    let fits : FitsSigned w64 c.corner_value.result = search rules in
    rw (← c.self.view_is, to_z-of_z w64 c.corner_value.result fits) (ap (λ (o : Option FaceRec). option_map (λ (r : CornerRec). slice_get r.vals c.args.k) (slice_get (corners_of o) c.args.i)) is ∙ c.corner_value.ensures)

pub returns-else-has : goal.returns-else-has
returns-else-has g c =
    let less : c.args.i < length (corners_of (at (former c.self.inside.past.now (g.S.Shape.complex c.self.inside.shape.now)).faces
    c.args.f.0)) = rw (← c.self.view_is) at c.requires.there in
    let p = c.self.inside.past.now.changes in
    let n = g.S.Shape.complex c.self.inside.shape.now in
    let there : IsThere (led_back p.next.faces p.faces n.faces) c.args.f.0 =
    corner_stands _ c.args.i less in
    let is = is_plain p.next.faces p.faces n.faces c.args.f.0 there (sym c.has.ensures ∙ c.if-has.false) in
    let fits : FitsSigned w64 c.corner_value-else-has.result = search rules in
    rw (← c.self.view_is, to_z-of_z w64 c.corner_value-else-has.result fits) (ap (λ (o : Option FaceRec). option_map (λ (r : CornerRec). slice_get r.vals c.args.k) (slice_get (corners_of o) c.args.i)) is ∙ c.corner_value-else-has.ensures)

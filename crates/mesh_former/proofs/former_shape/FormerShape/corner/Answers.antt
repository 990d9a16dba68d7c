use Rattle.std.proofs.Common.{◌<◌, length, sym, ap, ◌∙◌, subst, Option}
use Rattle.std.specs.Prelude.{slice_get}
use Rattle.std.specs.Option.{option_map}
use Rattle.mesh_model.specs.Table.{at, IsThere}
use Rattle.mesh_model.specs.Complex.{corners_of}
use Rattle.mesh_model.specs.ChangeSetNotes.{led_back}
use Rattle.mesh_model.specs.declared.records.CornerRec.{CornerRec}
use Rattle.mesh_model.specs.declared.records.FaceRec.{FaceRec}
use Rattle.mesh_former.proofs.There.{is_noted, is_plain, corner_stands}
use Rattle.mesh_former.specs.Former.{former}
use Rattle.mesh_former.proofs.former_shape.FormerShape.corner.Goals as goal

pub corner-requires : goal.corner-requires
corner-requires g c =
    let less : c.args.i < length (corners_of (at (former c.self.inside.past.now (g.S.Shape.complex c.self.inside.shape.now)).faces
    c.args.f.0)) = rw (← c.self.view_is) at c.requires in
    let p = c.self.inside.past.now.changes in
    let n = g.S.Shape.complex c.self.inside.shape.now in
    let there : IsThere (led_back p.next.faces p.faces n.faces) c.args.f.0 =
    corner_stands _ c.args.i less in
    let is = is_noted p.next.faces p.faces n.faces c.args.f.0 there (sym c.has.ensures ∙ c.if-has.true) in
    subst (λ (o : Option FaceRec). c.args.i < length (corners_of o)) is less

pub corner-requires-else-has : goal.corner-requires-else-has
corner-requires-else-has g c =
    let less : c.args.i < length (corners_of (at (former c.self.inside.past.now (g.S.Shape.complex c.self.inside.shape.now)).faces
    c.args.f.0)) = rw (← c.self.view_is) at c.requires in
    let p = c.self.inside.past.now.changes in
    let n = g.S.Shape.complex c.self.inside.shape.now in
    let there : IsThere (led_back p.next.faces p.faces n.faces) c.args.f.0 =
    corner_stands _ c.args.i less in
    let is = is_plain p.next.faces p.faces n.faces c.args.f.0 there (sym c.has.ensures ∙ c.if-has.false) in
    subst (λ (o : Option FaceRec). c.args.i < length (corners_of o)) is less

pub returns-then-has : goal.returns-then-has
returns-then-has g c =
    let less : c.args.i < length (corners_of (at (former c.self.inside.past.now (g.S.Shape.complex c.self.inside.shape.now)).faces
    c.args.f.0)) = rw (← c.self.view_is) at c.requires in
    let p = c.self.inside.past.now.changes in
    let n = g.S.Shape.complex c.self.inside.shape.now in
    let there : IsThere (led_back p.next.faces p.faces n.faces) c.args.f.0 =
    corner_stands _ c.args.i less in
    let is = is_noted p.next.faces p.faces n.faces c.args.f.0 there (sym c.has.ensures ∙ c.if-has.true) in
    rw (← c.self.view_is) (ap (λ (o : Option FaceRec). option_map (λ (k : CornerRec). (k.vert, k.edge)) (slice_get (corners_of o) c.args.i)) is ∙ c.corner.ensures)

pub returns-else-has : goal.returns-else-has
returns-else-has g c =
    let less : c.args.i < length (corners_of (at (former c.self.inside.past.now (g.S.Shape.complex c.self.inside.shape.now)).faces
    c.args.f.0)) = rw (← c.self.view_is) at c.requires in
    let p = c.self.inside.past.now.changes in
    let n = g.S.Shape.complex c.self.inside.shape.now in
    let there : IsThere (led_back p.next.faces p.faces n.faces) c.args.f.0 =
    corner_stands _ c.args.i less in
    let is = is_plain p.next.faces p.faces n.faces c.args.f.0 there (sym c.has.ensures ∙ c.if-has.false) in
    rw (← c.self.view_is) (ap (λ (o : Option FaceRec). option_map (λ (k : CornerRec). (k.vert, k.edge)) (slice_get (corners_of o) c.args.i)) is ∙ c.corner-else-has.ensures)

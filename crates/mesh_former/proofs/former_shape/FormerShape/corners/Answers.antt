use Rattle.std.proofs.Common.{◌≡◌, length, map, sym, ap, ◌∙◌, Option, is_some}
use Rattle.mesh_model.specs.Table.{at, IsThere}
use Rattle.mesh_model.specs.Complex.{corners_of}
use Rattle.mesh_model.specs.ChangeSetNotes.{led_back}
use Rattle.mesh_model.specs.declared.records.CornerRec.{CornerRec}
use Rattle.mesh_model.specs.declared.records.FaceRec.{FaceRec}
use Rattle.mesh_former.proofs.There.{is_noted, is_plain}
use Rattle.mesh_former.specs.Former.{former}
use Rattle.mesh_former.proofs.former_shape.FormerShape.corners.Goals as goal

pub corners-requires-clause-there : goal.corners-requires-clause-there
corners-requires-clause-there g c =
    let p = c.self.inside.past.now.changes in
    let n = g.S.Shape.complex c.self.inside.shape.now in
    let there : IsThere (led_back p.next.faces p.faces n.faces) c.args.f.0 =
    rw (← c.self.view_is) at c.requires.there in
    let is = is_noted p.next.faces p.faces n.faces c.args.f.0 there (sym c.has.ensures ∙ c.if-has.true) in
    sym (ap is_some is) ∙ there

pub corners-requires-clause-room : goal.corners-requires-clause-room
corners-requires-clause-room g c =
    let p = c.self.inside.past.now.changes in
    let n = g.S.Shape.complex c.self.inside.shape.now in
    let there : IsThere (led_back p.next.faces p.faces n.faces) c.args.f.0 =
    rw (← c.self.view_is) at c.requires.there in
    let is = is_noted p.next.faces p.faces n.faces c.args.f.0 there (sym c.has.ensures ∙ c.if-has.true) in
    let room : length c.args.into.now ≡ length (corners_of (at (former c.self.inside.past.now (g.S.Shape.complex
    c.self.inside.shape.now)).faces c.args.f.0)) = rw (← c.self.view_is) at c.requires.room in
    room ∙ ap (λ (o : Option FaceRec). length (corners_of o)) is

pub corners-requires-else-has-clause-there : goal.corners-requires-else-has-clause-there
corners-requires-else-has-clause-there g c =
    let p = c.self.inside.past.now.changes in
    let n = g.S.Shape.complex c.self.inside.shape.now in
    let there : IsThere (led_back p.next.faces p.faces n.faces) c.args.f.0 =
    rw (← c.self.view_is) at c.requires.there in
    let is = is_plain p.next.faces p.faces n.faces c.args.f.0 there (sym c.has.ensures ∙ c.if-has.false) in
    sym (ap is_some is) ∙ there

pub corners-requires-else-has-clause-room : goal.corners-requires-else-has-clause-room
corners-requires-else-has-clause-room g c =
    let p = c.self.inside.past.now.changes in
    let n = g.S.Shape.complex c.self.inside.shape.now in
    let there : IsThere (led_back p.next.faces p.faces n.faces) c.args.f.0 =
    rw (← c.self.view_is) at c.requires.there in
    let is = is_plain p.next.faces p.faces n.faces c.args.f.0 there (sym c.has.ensures ∙ c.if-has.false) in
    let room : length c.args.into.now ≡ length (corners_of (at (former c.self.inside.past.now (g.S.Shape.complex
    c.self.inside.shape.now)).faces c.args.f.0)) = rw (← c.self.view_is) at c.requires.room in
    room ∙ ap (λ (o : Option FaceRec). length (corners_of o)) is

pub returns-then-has : goal.returns-then-has
returns-then-has g c =
    let p = c.self.inside.past.now.changes in
    let n = g.S.Shape.complex c.self.inside.shape.now in
    let there : IsThere (led_back p.next.faces p.faces n.faces) c.args.f.0 =
    rw (← c.self.view_is) at c.requires.there in
    let is = is_noted p.next.faces p.faces n.faces c.args.f.0 there (sym c.has.ensures ∙ c.if-has.true) in
    rw (← c.self.view_is) (c.corners.ensures ∙ sym (ap (λ (o : Option FaceRec). map (λ (k : CornerRec). (k.vert, k.edge)) (corners_of o)) is))

pub returns-else-has : goal.returns-else-has
returns-else-has g c =
    let p = c.self.inside.past.now.changes in
    let n = g.S.Shape.complex c.self.inside.shape.now in
    let there : IsThere (led_back p.next.faces p.faces n.faces) c.args.f.0 =
    rw (← c.self.view_is) at c.requires.there in
    let is = is_plain p.next.faces p.faces n.faces c.args.f.0 there (sym c.has.ensures ∙ c.if-has.false) in
    rw (← c.self.view_is) (c.corners-else-has.ensures ∙ sym (ap (λ (o : Option FaceRec). map (λ (k : CornerRec). (k.vert, k.edge)) (corners_of o)) is))

use Rattle.std.proofs.Common.{◌≡◌, ◌*◌, ℕ, length, sym, ap, ◌∙◌, Option, is_some}
use Rattle.std.specs.List.{flat_map}
use Rattle.mesh_model.specs.Table.{at, IsThere}
use Rattle.mesh_model.specs.Complex.{corners_of, width}
use Rattle.mesh_model.specs.ChangeSetNotes.{led_back}
use Rattle.mesh_model.specs.declared.names.Kind.TheVariants.{Corners}
use Rattle.mesh_model.specs.declared.records.CornerRec.{CornerRec}
use Rattle.mesh_model.specs.declared.records.FaceRec.{FaceRec}
use Rattle.mesh_model.proofs.Tables.{stands}
use Rattle.mesh_former.proofs.There.{is_noted, is_plain, corners_agree}
use Rattle.mesh_former.specs.Former.{former}
use Rattle.mesh_trail.specs.Noted.{noted}
use Rattle.mesh_former.proofs.former_shape.FormerShape.corner_rows.Goals as goal

pub corner_rows-requires-clause-there : goal.corner_rows-requires-clause-there
corner_rows-requires-clause-there g c =
    let p = c.self.inside.past.now.changes in
    let n = g.S.Shape.complex c.self.inside.shape.now in
    let there : IsThere (led_back p.next.faces p.faces n.faces) c.args.f.0 =
    rw (← c.self.view_is) at c.requires.there in
    let is = is_noted p.next.faces p.faces n.faces c.args.f.0 there (sym c.has.ensures ∙ c.if-has.true) in
    sym (ap is_some is) ∙ there

pub corner_rows-requires-clause-room : goal.corner_rows-requires-clause-room
corner_rows-requires-clause-room g c =
    let p = c.self.inside.past.now.changes in
    let n = g.S.Shape.complex c.self.inside.shape.now in
    let there : IsThere (led_back p.next.faces p.faces n.faces) c.args.f.0 =
    rw (← c.self.view_is) at c.requires.there in
    let is = is_noted p.next.faces p.faces n.faces c.args.f.0 there (sym c.has.ensures ∙ c.if-has.true) in
    let room : length c.args.into.now ≡ length (corners_of (at (former c.self.inside.past.now n).faces c.args.f.0)) * width n
    Corners = rw (← c.self.view_is) at c.requires.room in
    let s = stands (at (led_back p.next.faces p.faces n.faces) c.args.f.0) there in
    let linked = c.self.invariant.linked.faces c.args.f.0 s.0 s.1 in
    let wide = c.rows_fit.ensures.faces c.args.f.0 s.0 (sym is ∙ s.1) in
    room ∙ ap (λ (o : Option FaceRec). length (corners_of o) * width n Corners) is
    ∙ ap (λ (w : ℕ). length (corners_of (noted p.faces c.args.f.0)) * w)
    (corners_agree s.0.corners (former c.self.inside.past.now n) c.self.inside.past.now.widths.corners linked.some
    linked.corners wide.corners)

pub corner_rows-requires-else-has-clause-there : goal.corner_rows-requires-else-has-clause-there
corner_rows-requires-else-has-clause-there g c =
    let p = c.self.inside.past.now.changes in
    let n = g.S.Shape.complex c.self.inside.shape.now in
    let there : IsThere (led_back p.next.faces p.faces n.faces) c.args.f.0 =
    rw (← c.self.view_is) at c.requires.there in
    let is = is_plain p.next.faces p.faces n.faces c.args.f.0 there (sym c.has.ensures ∙ c.if-has.false) in
    sym (ap is_some is) ∙ there

pub corner_rows-requires-else-has-clause-room : goal.corner_rows-requires-else-has-clause-room
corner_rows-requires-else-has-clause-room g c =
    let p = c.self.inside.past.now.changes in
    let n = g.S.Shape.complex c.self.inside.shape.now in
    let there : IsThere (led_back p.next.faces p.faces n.faces) c.args.f.0 =
    rw (← c.self.view_is) at c.requires.there in
    let is = is_plain p.next.faces p.faces n.faces c.args.f.0 there (sym c.has.ensures ∙ c.if-has.false) in
    let room : length c.args.into.now ≡ length (corners_of (at (former c.self.inside.past.now n).faces c.args.f.0)) * width n
    Corners = rw (← c.self.view_is) at c.requires.room in
    room ∙ ap (λ (o : Option FaceRec). length (corners_of o) * width n Corners) is

pub returns-then-has : goal.returns-then-has
returns-then-has g c =
    let p = c.self.inside.past.now.changes in
    let n = g.S.Shape.complex c.self.inside.shape.now in
    let there : IsThere (led_back p.next.faces p.faces n.faces) c.args.f.0 =
    rw (← c.self.view_is) at c.requires.there in
    let is = is_noted p.next.faces p.faces n.faces c.args.f.0 there (sym c.has.ensures ∙ c.if-has.true) in
    rw (← c.self.view_is) (c.corner_rows.ensures ∙ sym (ap (λ (o : Option FaceRec). flat_map (λ (k : CornerRec). k.vals) (corners_of o)) is))

pub returns-else-has : goal.returns-else-has
returns-else-has g c =
    let p = c.self.inside.past.now.changes in
    let n = g.S.Shape.complex c.self.inside.shape.now in
    let there : IsThere (led_back p.next.faces p.faces n.faces) c.args.f.0 =
    rw (← c.self.view_is) at c.requires.there in
    let is = is_plain p.next.faces p.faces n.faces c.args.f.0 there (sym c.has.ensures ∙ c.if-has.false) in
    rw (← c.self.view_is) (c.corner_rows-else-has.ensures ∙ sym (ap (λ (o : Option FaceRec). flat_map (λ (k : CornerRec). k.vals) (corners_of o)) is))

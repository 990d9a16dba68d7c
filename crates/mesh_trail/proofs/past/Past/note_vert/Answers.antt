use Rattle.std.proofs.Common.{◌≡◌, None, refl, sym, ◌∙◌}
use Rattle.std.specs.FinMap.{get}
use Rattle.mesh_model.specs.Table.{at}
use Rattle.mesh_trail.specs.Noted.{map_notes}
use Rattle.mesh_trail.specs.Kept.{vert_of}
use Rattle.mesh_trail.proofs.MapNotes.{is_none, is_some-map_notes, map_notes-none, first_at_none, first_at_some, none_not}
use Rattle.mesh_trail.proofs.past.Past.note_vert.Goals as goal

pub returns-then-has-clause-ok : goal.returns-then-has-clause-ok
returns-then-has-clause-ok g c =
    let now = map_notes vert_of c.self.inside.verts.names in
    let k = c.args.name.0 in
    let stays = first_at_some now k (at (g.S.Shape.complex c.args.now.now).verts k)
    (is_some-map_notes vert_of c.self.inside.verts.names k ∙ sym c.has.ensures ∙ c.if-has.true) in
    rw (← c.self.view_is, stays) (refl)

pub returns-in_err-note_vert-clause-there : goal.returns-in_err-note_vert-clause-there
returns-in_err-note_vert-clause-there g c some =
    none_not (get (map_notes vert_of c.self.inside.verts.names) c.args.name.0)
    (map_notes-none vert_of c.self.inside.verts.names c.args.name.0
    (is_none (get c.self.inside.verts.names c.args.name.0) (sym c.has.ensures ∙ c.if-has.false)))
    (rw (← c.self.view_is) at some)

pub returns-clause-ok : goal.returns-clause-ok
returns-clause-ok g c =
    let now = map_notes vert_of c.self.inside.verts.names in
    let k = c.args.name.0 in
    let none : get now k ≡ None = map_notes-none vert_of c.self.inside.verts.names k
    (is_none (get c.self.inside.verts.names k) (sym c.has.ensures ∙ c.if-has.false)) in
    rw (
      ← c.self.view_is,
      first_at_none now k (at (g.S.Shape.complex c.args.now.now).verts k) none,
      c.in_ok-note_vert.ensures.ok,
    ) refl

pub returns-clause-there : goal.returns-clause-there
returns-clause-there g c some =
    none_not (get (map_notes vert_of c.self.inside.verts.names) c.args.name.0)
    (map_notes-none vert_of c.self.inside.verts.names c.args.name.0
    (is_none (get c.self.inside.verts.names c.args.name.0) (sym c.has.ensures ∙ c.if-has.false)))
    (rw (← c.self.view_is) at some)

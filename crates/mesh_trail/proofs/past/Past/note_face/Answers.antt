use Rattle.std.proofs.Common.{◌≡◌, None, refl, sym, ◌∙◌}
use Rattle.std.specs.FinMap.{get}
use Rattle.mesh_model.specs.Table.{at}
use Rattle.mesh_trail.proofs.MapNotes.{is_none, first_at_none, first_at_some, none_not}
use Rattle.mesh_trail.proofs.past.Past.note_face.Goals as goal

pub returns-then-has-clause-ok : goal.returns-then-has-clause-ok
returns-then-has-clause-ok g c =
    let now = c.self.inside.faces.names in
    let k = c.args.name.0 in
    let stays = first_at_some now k (at (g.S.Shape.complex c.args.now.now).faces k) (sym c.has.ensures ∙ c.if-has.true)
    in
    rw (← c.self.view_is, stays) refl

pub note-requires-clause-none : goal.note-requires-clause-none
note-requires-clause-none g c = is_none (get c.self.inside.faces.names c.args.name.0)
    (sym c.has.ensures ∙ c.if-has.false)

pub returns-in_err-note-clause-there : goal.returns-in_err-note-clause-there
returns-in_err-note-clause-there g c some =
    none_not (get c.self.inside.faces.names c.args.name.0) (is_none (get c.self.inside.faces.names c.args.name.0)
    (sym c.has.ensures ∙ c.if-has.false)) (rw (← c.self.view_is) at some)

pub returns-clause-ok : goal.returns-clause-ok
returns-clause-ok g c =
    let now = c.self.inside.faces.names in
    let k = c.args.name.0 in
    let none : get now k ≡ None = is_none (get now k) (sym c.has.ensures ∙ c.if-has.false) in
    rw (
      ← c.self.view_is,
      first_at_none now k (at (g.S.Shape.complex c.args.now.now).faces k) none,
      c.in_ok-note.ensures.ok,
    ) refl

pub returns-clause-there : goal.returns-clause-there
returns-clause-there g c some = none_not (get c.self.inside.faces.names c.args.name.0)
    (is_none (get c.self.inside.faces.names c.args.name.0) (sym c.has.ensures ∙ c.if-has.false))
    (rw (← c.self.view_is) at some)

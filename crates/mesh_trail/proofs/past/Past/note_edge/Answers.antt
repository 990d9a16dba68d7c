use Rattle.std.proofs.Common.{◌≡◌, None, refl, sym, ◌∙◌}
use Rattle.std.specs.FinMap.{get}
use Rattle.mesh_model.specs.Table.{at}
use Rattle.mesh_trail.specs.Noted.{map_notes}
use Rattle.mesh_trail.specs.Kept.{edge_of}
use Rattle.mesh_trail.proofs.MapNotes.{is_none, is_some-map_notes, map_notes-none, first_at_none, first_at_some, none_not}
use Rattle.mesh_trail.proofs.past.Past.note_edge.Goals as goal

pub returns-then-has-clause-ok : goal.returns-then-has-clause-ok
returns-then-has-clause-ok g c =
    let now = map_notes edge_of c.self.inside.edges.names in
    let k = c.args.name.0 in
    let stays = first_at_some now k (at (g.S.Shape.complex c.args.now.now).edges k)
    (is_some-map_notes edge_of c.self.inside.edges.names k ∙ sym c.has.ensures ∙ c.if-has.true) in
    rw (← c.self.view_is, stays) (refl)

pub returns-in_err-note_edge-clause-there : goal.returns-in_err-note_edge-clause-there
returns-in_err-note_edge-clause-there g c some =
    none_not (get (map_notes edge_of c.self.inside.edges.names) c.args.name.0)
    (map_notes-none edge_of c.self.inside.edges.names c.args.name.0
    (is_none (get c.self.inside.edges.names c.args.name.0) (sym c.has.ensures ∙ c.if-has.false)))
    (rw (← c.self.view_is) at some)

pub returns-clause-ok : goal.returns-clause-ok
returns-clause-ok g c =
    let now = map_notes edge_of c.self.inside.edges.names in
    let k = c.args.name.0 in
    let none : get now k ≡ None = map_notes-none edge_of c.self.inside.edges.names k
    (is_none (get c.self.inside.edges.names k) (sym c.has.ensures ∙ c.if-has.false)) in
    rw (
      ← c.self.view_is,
      first_at_none now k (at (g.S.Shape.complex c.args.now.now).edges k) none,
      c.in_ok-note_edge.ensures.ok,
    ) refl

pub returns-clause-there : goal.returns-clause-there
returns-clause-there g c some =
    none_not (get (map_notes edge_of c.self.inside.edges.names) c.args.name.0)
    (map_notes-none edge_of c.self.inside.edges.names c.args.name.0
    (is_none (get c.self.inside.edges.names c.args.name.0) (sym c.has.ensures ∙ c.if-has.false)))
    (rw (← c.self.view_is) at some)

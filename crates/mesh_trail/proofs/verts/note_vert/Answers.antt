use Rattle.std.proofs.Common.{sym, ◌∙◌}
use Rattle.mesh_trail.specs.Kept.{vert_of, vert_row}
use Rattle.mesh_trail.proofs.MapNotes.{is_none}
use Rattle.mesh_trail.proofs.Elements.{vert_stands, noted_as, noted_absent_as}
use Rattle.mesh_trail.proofs.verts.note_vert.Goals as goal

pub returns-then-not-has-clause-ok : goal.returns-then-not-has-clause-ok
returns-then-not-has-clause-ok g c = rw c.in_ok-note_absent.ensures.ok
    (noted_absent_as vert_of c.args.table.now.names c.args.name.0 _ (is_none _ (sym c.has.ensures ∙ c.if-not-has.true)))

pub returns-clause-ok : goal.returns-clause-ok
returns-clause-ok g c =
    rw c.in_ok-note_row.ensures.ok (noted_as vert_of c.args.table.now.names c.args.name.0
    (c.point.result, vert_row (g.S.Shape.complex c.args.now.now) c.args.name.0) _
    (vert_stands (g.S.Shape.complex c.args.now.now) c.args.name.0 c.point.result c.counters.ensures.linked
    c.point.ensures))

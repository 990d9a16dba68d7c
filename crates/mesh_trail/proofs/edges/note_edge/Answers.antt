use Rattle.std.proofs.Common.{sym, ◌∙◌}
use Rattle.mesh_trail.specs.Kept.{edge_of, edge_row}
use Rattle.mesh_trail.proofs.MapNotes.{is_none}
use Rattle.mesh_trail.proofs.Elements.{edge_stands, edge_row_wide, noted_as, noted_absent_as}
use Rattle.mesh_trail.proofs.edges.note_edge.Goals as goal

pub returns-then-not-has-clause-ok : goal.returns-then-not-has-clause-ok
returns-then-not-has-clause-ok g c = rw c.in_ok-note_absent.ensures.ok
    (noted_absent_as edge_of c.args.table.now.names c.args.name.0 _ (is_none _ (sym c.has.ensures ∙ c.if-not-has.true)))

pub note_row-requires-clause-wide : goal.note_row-requires-clause-wide
note_row-requires-clause-wide g c = edge_row_wide (g.S.Shape.complex c.args.now.now) c.args.name.0
    c.counters.ensures.linked (sym c.has.ensures ∙ c.if-not-has.false) ∙ sym c.requires.wide

pub returns-clause-ok : goal.returns-clause-ok
returns-clause-ok g c =
    rw c.in_ok-note_row.ensures.ok (noted_as edge_of c.args.table.now.names c.args.name.0
    (c.ends_of.result, edge_row (g.S.Shape.complex c.args.now.now) c.args.name.0) _
    (edge_stands (g.S.Shape.complex c.args.now.now) c.args.name.0 c.ends_of.result c.counters.ensures.linked
    c.ends_of.ensures))

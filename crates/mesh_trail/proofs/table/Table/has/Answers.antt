use Rattle.std.proofs.Common.{sym, ap, ◌∙◌, is_some}
use Rattle.mesh_trail.specs.Kept.{kept_row}
use Rattle.mesh_trail.proofs.MapNotes.{is_some-map_notes}
use Rattle.mesh_trail.proofs.table.Table.has.Goals as goal

pub returns : goal.returns
returns g c = rw (← c.self.view_is) (c.is_some.ensures ∙ ap is_some c.find.ensures
    ∙ sym (is_some-map_notes (kept_row c.self.inside.width c.self.inside.values.items) c.self.inside.map.names
    c.args.name))

use Rattle.std.proofs.Common.{◌∙◌, sym, ap}
use Rattle.mesh_trail.specs.Noted.{is_absent}
use Rattle.mesh_trail.specs.Kept.{kept_row}
use Rattle.mesh_trail.proofs.MapNotes.{absent-map_notes}
use Rattle.mesh_trail.proofs.table.Table.was_absent.Goals as goal

pub returns : goal.returns
returns g c = rw (← c.self.view_is) (c.says_absent.ensures ∙ ap is_absent c.find.ensures
    ∙ sym (absent-map_notes (kept_row c.self.inside.width c.self.inside.values.items) c.self.inside.map.names
    c.args.name))

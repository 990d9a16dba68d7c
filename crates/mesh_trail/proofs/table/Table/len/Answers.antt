use Rattle.std.proofs.Common.{◌∙◌, sym}
use Rattle.mesh_trail.specs.Kept.{kept_row}
use Rattle.mesh_trail.proofs.MapNotes.{len-map_notes}
use Rattle.mesh_trail.proofs.table.Table.len.Goals as goal

pub returns : goal.returns
returns g c = rw (← c.self.view_is) (c.len.ensures
    ∙ sym (len-map_notes (kept_row c.self.inside.width c.self.inside.values.items) c.self.inside.map.names))

use Rattle.mesh_trail.specs.Kept.{kept_row}
use Rattle.mesh_trail.proofs.MapNotes.{least-map_notes}
use Rattle.mesh_trail.proofs.table.Table.least.Goals as goal

pub returns : goal.returns
returns g c = rw (← c.self.view_is) (least-map_notes (kept_row c.self.inside.width c.self.inside.values.items)
    c.self.inside.map.names c.args.least c.least.result c.least.ensures)

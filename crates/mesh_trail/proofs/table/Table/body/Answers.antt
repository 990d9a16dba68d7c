use Rattle.std.proofs.Common.{ap, sym, ◌∙◌, Option}
use Rattle.std.specs.Option.{option_map}
use Rattle.mesh_trail.specs.Kept.{kept_row}
use Rattle.mesh_trail.specs.declared.table.Kept.{Kept}
use Rattle.mesh_trail.proofs.MapNotes.{mapped-map_notes}
use Rattle.mesh_trail.proofs.table.Table.body.Goals as goal

pub returns-in-Some : goal.returns-in-Some
returns-in-Some g c =
    let row = kept_row {B = g.row.B.Denot} c.self.inside.width c.self.inside.values.items in
    rw (← c.self.view_is) (sym (mapped-map_notes row (λ r. r.0) c.self.inside.map.names c.args.name _
    (ap (λ (o : Option (Kept g.row.B.Denot)). option_map (λ k. k.body) o) (sym c.record.ensures ∙ c.in-Some.is))))

pub returns-in-None : goal.returns-in-None
returns-in-None g c =
    let row = kept_row {B = g.row.B.Denot} c.self.inside.width c.self.inside.values.items in
    rw (← c.self.view_is) (sym (mapped-map_notes row (λ r. r.0) c.self.inside.map.names c.args.name _
    (ap (λ (o : Option (Kept g.row.B.Denot)). option_map (λ k. k.body) o) (sym c.record.ensures ∙ c.in-None.is))))

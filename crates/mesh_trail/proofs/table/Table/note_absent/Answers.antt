use Rattle.std.proofs.Common.{arith, ◌≡◌, None}
use Rattle.std.specs.FinMap.{get}
use Rattle.std.specs.Vec.{vec_len, vec_capacity}
use Rattle.mesh_trail.specs.Noted.{map_notes}
use Rattle.mesh_trail.specs.Kept.{kept_row}
use Rattle.mesh_trail.proofs.MapNotes.{none-map_notes}
use Rattle.mesh_trail.proofs.Tables.{absent_noted, absent_within}
use Rattle.mesh_trail.proofs.Rooms.{room_less}
use Rattle.mesh_trail.proofs.table.Table.note_absent.Goals as goal

pub invariant_of-self-2 : goal.invariant_of-self-2
invariant_of-self-2 g c =
    let t = c.self.inside in
    let row = kept_row {B = g.row.B.Denot} t.width t.values.items in
    let none : get (map_notes row t.map.names) c.args.name ≡ None = rw (← c.self.view_is) at c.requires in
    record {
      within = rw (c.in_ok-note.ensures.ok) (absent_within t.width (vec_len t.values) t.map.names c.args.name
          c.self.invariant.within (none-map_notes row t.map.names c.args.name none));
      names_room = omega (arith, c.in_ok-note.ensures.room);
      values_room = rw c.saturating_sub-self-inside.ensures
          (room_less (vec_len t.values) t.spare t.width (vec_capacity t.values) c.self.invariant.values_room);
    }

pub returns-clause-ok : goal.returns-clause-ok
returns-clause-ok g c =
    let t = c.self.inside in
    let row = kept_row {B = g.row.B.Denot} t.width t.values.items in
    let none : get (map_notes row t.map.names) c.args.name ≡ None = rw (← c.self.view_is) at c.requires in
    rw (c.in_ok-note.ensures.ok, ← c.self.view_is) (absent_noted t.width t.values.items t.map.names c.args.name none)

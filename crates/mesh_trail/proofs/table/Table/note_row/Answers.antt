use Rattle.std.proofs.Common.{ap, sym, ◌∙◌, arith, ◌≡◌, ℕ, subst, None, length, ◌<◌}
use Rattle.std.specs.FinMap.{get}
use Rattle.std.specs.Vec.{vec_len, vec_capacity}
use Rattle.mesh_trail.specs.Noted.{map_notes}
use Rattle.mesh_trail.specs.Kept.{kept_row, AreWithin}
use Rattle.mesh_trail.specs.declared.table.Kept.{Kept}
use Rattle.mesh_trail.proofs.MapNotes.{none-map_notes}
use Rattle.mesh_trail.proofs.Tables.{rows_noted, rows_within}
use Rattle.mesh_trail.proofs.Rooms.{room_used, room_after, failed}
use Rattle.mesh_trail.proofs.table.Table.note_row.Goals as goal

pub returns-in_err-push_row-clause-succeeds : goal.returns-in_err-push_row-clause-succeeds
returns-in_err-push_row-clause-succeeds g c some =
    let t = c.self.inside in
    let here : 0 < t.spare = rw (← c.self.view_is) at some in
    let used = room_used (vec_len t.values) t.spare t.width (vec_capacity t.values) c.self.invariant.values_room here in
    absurd (failed c.push_row.result (c.push_row.ensures.succeeds (omega arith)) _ c.in_err-push_row.was)

pub invariant_of-self-in-Ok : goal.invariant_of-self-in-Ok
invariant_of-self-in-Ok g c =
    let t = c.self.inside in
    let row = kept_row {B = g.row.B.Denot} t.width t.values.items in
    let none : get (map_notes row t.map.names) c.args.name ≡ None = rw (← c.self.view_is) at c.requires.none in
    let k : Kept g.row.B.Denot = record { body = c.args.body; row = c.len-at.result } in
    record {
      within = rw (c.in-Ok.ensures.ok) (rows_within t.width (vec_len t.values) (vec_len c.push_row.new.values)
          t.map.names c.args.name k c.self.invariant.within (none-map_notes row t.map.names c.args.name none)
          c.len-at.ensures c.in_ok-push_row.ensures.len);
      names_room = omega (arith, c.in-Ok.ensures.room);
      values_room = rw (c.saturating_sub-self-inside.ensures, c.in_ok-push_row.ensures.len)
          (room_after (vec_len t.values) t.spare t.width (vec_capacity t.values) (vec_capacity c.push_row.new.values)
          c.self.invariant.values_room c.push_row.ensures.capacity c.in_ok-push_row.ensures.room);
    }

pub returns-in-Ok-clause-ok : goal.returns-in-Ok-clause-ok
returns-in-Ok-clause-ok g c =
    let t = c.self.inside in
    let row = kept_row {B = g.row.B.Denot} t.width t.values.items in
    let none : get (map_notes row t.map.names) c.args.name ≡ None = rw (← c.self.view_is) at c.requires.none in
    let wide : length (g.R.Row.vals c.args.row.now) ≡ t.width =
    c.requires.wide ∙ ap (λ (v : _). v.width) (sym c.self.view_is) in
    let same : vec_len t.values ≡ length t.values.items = omega arith in
    let within : AreWithin t.width (length t.values.items) t.map.names =
    subst (λ (n : ℕ). AreWithin t.width n t.map.names) same c.self.invariant.within in
    rw (c.in-Ok.ensures.ok, c.in_ok-push_row.ensures.ok, ← c.self.view_is)
    (rows_noted t.width t.values.items (g.R.Row.vals c.args.row.now) t.map.names c.args.name
    (record { body = c.args.body; row = c.len-at.result }) within none wide (c.len-at.ensures ∙ same))

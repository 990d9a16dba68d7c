use Rattle.std.proofs.Common.{◌∙◌, ap, sym, Some, arith}
use Rattle.std.specs.FinMap.{get, get-empty}
use Rattle.std.specs.Ordering.{nat_cmp}
use Rattle.std.proofs.lemmas.Option.{none-some}
use Rattle.mesh_model.specs.ChangeSetNotes.{Notes}
use Rattle.mesh_trail.specs.Kept.{kept_row}
use Rattle.mesh_trail.specs.Noted.{map_notes}
use Rattle.mesh_trail.specs.declared.table.Kept.{Kept}
use Rattle.mesh_trail.proofs.MapNotes.{map_notes-empty}
use Rattle.mesh_trail.proofs.table.Table.restart.Goals as goal

pub invariant_of-self : goal.invariant_of-self
invariant_of-self g c =
    let t = c.self.inside in
    let old = c.self.invariant in
    let room = c.room_at-self-inside.ensures in
    record {
      within = λ name k at_name. absurd (none-some (Some k)
          (sym (get-empty nat_cmp name) ∙ sym (ap (λ (m : Notes (Kept g.row.B.Denot)). get m name)
          c.clear-2.ensures.names) ∙ at_name));
      names_room = omega (arith, old.names_room, room.less, c.clear-2.ensures.room);
      values_room = omega (arith, old.values_room, room.numbers, c.clear.ensures.len, c.clear.ensures.capacity);
    }

pub returns-clause-names : goal.returns-clause-names
returns-clause-names g c = ap (λ (m : Notes (Kept g.row.B.Denot)). map_notes
    (kept_row c.args.width c.clear.new.self.items) m) c.clear-2.ensures.names
    ∙ map_notes-empty (kept_row c.args.width c.clear.new.self.items)

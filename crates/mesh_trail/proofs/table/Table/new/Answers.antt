use Rattle.std.proofs.Common.{◌∙◌, ap, sym, Some, arith}
use Rattle.std.specs.FinMap.{get, get-empty}
use Rattle.std.specs.Ordering.{nat_cmp}
use Rattle.std.proofs.lemmas.Option.{none-some}
use Rattle.mesh_model.specs.ChangeSetNotes.{Notes}
use Rattle.mesh_trail.specs.Kept.{kept_row}
use Rattle.mesh_trail.specs.Noted.{map_notes}
use Rattle.mesh_trail.specs.declared.table.Kept.{Kept}
use Rattle.mesh_trail.proofs.MapNotes.{map_notes-empty}
use Rattle.mesh_trail.proofs.table.Table.new.Goals as goal

pub invariant_of-result : goal.invariant_of-result
invariant_of-result g c = record {
  within = λ name k at_name. absurd (none-some (Some k) (sym (get-empty nat_cmp name)
      ∙ sym (ap (λ (m : Notes (Kept g.row.B.Denot)). get m name) c.new.ensures) ∙ at_name));
  names_room = omega arith;
  values_room = omega arith;
}

pub returns-clause-names : goal.returns-clause-names
returns-clause-names g c = ap (λ (m : Notes (Kept g.row.B.Denot)). map_notes
    (kept_row c.args.width c.new-2.result.items) m) c.new.ensures
    ∙ map_notes-empty (kept_row c.args.width c.new-2.result.items)

use Rattle.std.proofs.Common.{ℤ, List, ◌∙◌, ap, sym, Some}
use Rattle.std.specs.FinMap.{get, get-empty}
use Rattle.std.specs.Ordering.{nat_cmp}
use Rattle.std.proofs.lemmas.Option.{none-some}
use Rattle.mesh_model.specs.ChangeSetNotes.{Notes}
use Rattle.mesh_trail.specs.Noted.{map_notes}
use Rattle.mesh_trail.specs.Kept.{face_of}
use Rattle.mesh_trail.specs.declared.faces.Span.{Span}
use Rattle.mesh_trail.proofs.MapNotes.{map_notes-empty}
use Rattle.mesh_trail.proofs.faces.FaceTable.restart.Goals as goal

pub invariant_of-self : goal.invariant_of-self
invariant_of-self c = λ name r at_name.
    absurd (none-some (Some r) (sym (get-empty nat_cmp name)
    ∙ sym (ap (λ (m : Notes (Span × List ℤ)). get m name) c.restart.ensures.names) ∙ at_name))

pub returns-clause-names : goal.returns-clause-names
returns-clause-names c = ap (λ (m : Notes (Span × List ℤ)). map_notes (face_of c.restart-2.new.self.corners) m)
    c.restart.ensures.names ∙ map_notes-empty (face_of c.restart-2.new.self.corners)

use Rattle.std.proofs.Common.{◌≡◌}
use Rattle.mesh_model.specs.ChangeSet.{same_face}
use Rattle.mesh_trail.proofs.NewNotes.{AreNew}
use Rattle.mesh_trail.proofs.between.note_new_faces.Given as goal

abbrev pub invariant-loop-n : goal.invariant-loop-n
invariant-loop-n g l = record {
  new : AreNew same_face (g.S.Shape.complex l.now).faces l.past.changes.faces l.n;
  rest : l.past.changes ≡ record l.fn.past.changes { faces = l.past.changes.faces };
  widths : l.past.widths ≡ l.fn.past.widths;
}

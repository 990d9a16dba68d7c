use Rattle.std.proofs.Common.{◌≡◌}
use Rattle.mesh_trail.specs.Between.{NotesFaces}
use Rattle.mesh_trail.proofs.between.note_faces.Given as goal

abbrev pub invariant-loop-n : goal.invariant-loop-n
invariant-loop-n g l = record {
  notes : NotesFaces l.fn.past.changes l.past.changes (g.S.Shape.complex l.shape) l.n;
  widths : l.past.widths ≡ l.fn.past.widths;
}

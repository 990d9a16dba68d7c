use Rattle.std.proofs.Common.{◌≡◌}
use Rattle.mesh_trail.specs.Between.{NotesVerts}
use Rattle.mesh_trail.proofs.between.note_verts.Given as goal

abbrev pub invariant-loop-n : goal.invariant-loop-n
invariant-loop-n g l = record {
  notes : NotesVerts l.fn.past.changes l.past.changes (g.S.Shape.complex l.shape) l.n;
  widths : l.past.widths ≡ l.fn.past.widths;
}

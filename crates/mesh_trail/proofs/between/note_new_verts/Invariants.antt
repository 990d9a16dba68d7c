use Rattle.std.proofs.Common.{◌≡◌}
use Rattle.mesh_model.specs.ChangeSet.{same_vert}
use Rattle.mesh_trail.proofs.NewNotes.{AreNew}
use Rattle.mesh_trail.proofs.between.note_new_verts.Given as goal

abbrev pub invariant-loop-n : goal.invariant-loop-n
invariant-loop-n g l = record {
  new : AreNew same_vert (g.S.Shape.complex l.now).verts l.past.changes.verts l.n;
  rest : l.past.changes ≡ record l.fn.past.changes { verts = l.past.changes.verts };
  widths : l.past.widths ≡ l.fn.past.widths;
}

use Rattle.std.proofs.Common.{◌≡◌}
use Rattle.mesh_model.specs.ChangeSet.{same_edge}
use Rattle.mesh_trail.proofs.NewNotes.{AreNew}
use Rattle.mesh_trail.proofs.between.note_new_edges.Given as goal

abbrev pub invariant-loop-n : goal.invariant-loop-n
invariant-loop-n g l = record {
  new : AreNew same_edge (g.S.Shape.complex l.now).edges l.past.changes.edges l.n;
  rest : l.past.changes ≡ record l.fn.past.changes { edges = l.past.changes.edges };
  widths : l.past.widths ≡ l.fn.past.widths;
}

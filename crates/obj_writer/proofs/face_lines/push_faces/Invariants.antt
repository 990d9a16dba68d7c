use Rattle.std.proofs.Common.{◌≡◌, ◌++◌}
use Rattle.obj_writer.proofs.FaceTextLemmas.{texts_to, faces_to, last_numbers}
use Rattle.obj_writer.proofs.face_lines.push_faces.Given as goal

-- the lines of the faces so far, and the numbers of the last of them
abbrev pub invariant-loop-n : goal.invariant-loop-n
invariant-loop-n g l = record {
  done : l.out.items ≡ l.fn.out.items ++ texts_to (g.S.Shape.complex l.shape) l.n;
  last : l.before ≡ last_numbers (g.S.Shape.complex l.shape) (faces_to (g.S.Shape.complex l.shape) l.n);
}

use Rattle.std.proofs.Common.{◌≡◌, ◌≤◌, take}
use Rattle.mesh_model.specs.Table.{live}
use Rattle.bmesh_run.proofs.write.report.vert_count.Given as goal

abbrev pub invariant-loop-n : goal.invariant-loop-n
invariant-loop-n g l = record {
  told : l.count ≡ live (take l.n (g.S.Shape.complex l.shape).verts);
  few : l.count ≤ l.n;
}

use Rattle.std.proofs.Common.{◌≡◌, ◌+◌, ◌≤◌}
use Rattle.mesh_model.specs.Table.{table_of}
use Rattle.mesh_model.specs.Copying.{vert_left}
use Rattle.mesh_model.proofs.copying.verts_of.Given as goal

abbrev pub invariant-loop-n : goal.invariant-loop-n
invariant-loop-n g l = record {
  table : l.verts.table ≡ table_of (vert_left l.gone (g.S.Shape.complex l.shape)) l.n;
  layers : l.verts.layers ≡ (g.S.Shape.complex l.shape).layers.verts;
  room : l.count ≤ l.verts.room + l.n;
}

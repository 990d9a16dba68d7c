use Rattle.std.proofs.Common.{◌≡◌, ◌+◌, ◌≤◌, ℕ, false}
use Rattle.mesh_model.specs.Table.{table_of}
use Rattle.mesh_model.specs.NameSet.{is_in}
use Rattle.mesh_model.specs.Copying.{edge_left}
use Rattle.mesh_model.proofs.copying.edges_of.Given as goal

abbrev pub invariant-loop-n : goal.invariant-loop-n
invariant-loop-n g l = record {
  table : l.edges.table ≡ table_of (edge_left l.gone (g.S.Shape.complex l.shape)) l.n;
  layers : l.edges.layers ≡ (g.S.Shape.complex l.shape).layers.edges;
  unused : (n : ℕ) → is_in l.edges.used n ≡ false;
  room : l.count ≤ l.edges.room + l.n;
}

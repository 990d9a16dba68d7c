use Rattle.std.proofs.Common.{◌≡◌, ◌+◌, ◌≤◌, ◌||◌, [], length}
use Rattle.std.specs.List.{list_any}
use Rattle.mesh_model.specs.Table.{passes, table_of}
use Rattle.mesh_model.specs.Complex.{corner_sum}
use Rattle.mesh_model.specs.Incidence.{uses_edge}
use Rattle.mesh_model.specs.NameSet.{is_in}
use Rattle.mesh_model.specs.Copying.{face_left}
use Rattle.mesh_model.specs.declared.names.EdgeName.{EdgeName}
use Rattle.mesh_model.proofs.copying.faces_of.Given as goal

abbrev pub invariant-loop-n : goal.invariant-loop-n
invariant-loop-n g l = record {
  table : l.faces.table ≡ table_of (face_left l.gone (g.S.Shape.complex l.shape)) l.n;
  closed : l.faces.open ≡ [];
  layers : l.faces.layers ≡ (g.S.Shape.complex l.shape).layers.faces;
  corner_layers : l.faces.corner_layers ≡ (g.S.Shape.complex l.shape).layers.corners;
  room : length (g.S.Shape.complex l.shape).faces ≤ l.faces.room + l.n;
  corner_room : corner_sum (g.S.Shape.complex l.shape).faces ≤ l.faces.corner_room + corner_sum l.faces.table;
  edges : l.edges ≡ record l.fn.edges { used = l.edges.used };
  used : (e : EdgeName)
      → is_in l.edges.used e.0 ≡ (is_in l.fn.edges.used e.0 || list_any (passes (uses_edge e)) l.faces.table);
}

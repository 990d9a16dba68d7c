use Rattle.std.proofs.Common.{◌≡◌, length, take}
use Rattle.std.specs.List.{flat_map}
use Rattle.mesh_model.specs.Table.{at}
use Rattle.mesh_model.specs.Complex.{corners_of}
use Rattle.mesh_model.proofs.face_columns.FaceColumns.corner_rows.Given as goal

abbrev pub invariant-loop-i : goal.invariant-loop-i
invariant-loop-i l = record {
  from : l.from ≡ length (flat_map (λ k. k.vals) (take l.i (corners_of (at l.self.table l.name))));
  rows : take l.from l.into ≡ flat_map (λ k. k.vals) (take l.i (corners_of (at l.self.table l.name)));
}

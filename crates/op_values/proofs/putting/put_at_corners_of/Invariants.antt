use Rattle.std.proofs.Common.{◌≡◌, length, take}
use Rattle.std.specs.List.{flat_map}
use Rattle.mesh_model.specs.Table.{at}
use Rattle.mesh_model.specs.Complex.{corners_of}
use Rattle.mesh_model.specs.Kernel.{with_corners_by}
use Rattle.mesh_model.specs.declared.records.CornerRec.{CornerRec}
use Rattle.mesh_core.specs.Seen.{now}
use Rattle.op_values.specs.Putting.{put_from}
use Rattle.op_values.proofs.CornerRows.{half_put}
use Rattle.op_values.proofs.putting.put_at_corners_of.Given as goal

abbrev pub invariant-loop-i : goal.invariant-loop-i
invariant-loop-i l = record {
  start : l.start
      ≡ length (flat_map (λ (k : CornerRec). k.vals) (take l.i (corners_of (at (now l.fn.mesh).faces l.f.0))));
  now : now l.mesh ≡ with_corners_by (now l.fn.mesh) l.f (half_put (put_from l.from l.numbers) l.i);
  base : l.mesh.base ≡ l.fn.mesh.base;
}

use Rattle.std.proofs.Common.{◌≡◌}
use Rattle.std.specs.Vec.{vec_len, vec_capacity}
use Rattle.mesh_model.specs.ChangeSet.{same_face}
use Rattle.mesh_trail.specs.Kept.{face_in}
use Rattle.mesh_trail.proofs.Trims.{IsTrimming, differs_by}
use Rattle.mesh_trail.proofs.faces.trim_entries.Given as goal

abbrev pub invariant-loop-k : goal.invariant-loop-k
invariant-loop-k g l = record {
  steps : IsTrimming (differs_by (face_in l.initial.corners.corners l.width l.values) same_face
      (g.S.Shape.complex l.now).faces) l.initial.entries.items l.entries.items l.kept l.k;
  same : l.corners ≡ l.initial.corners;
  len : vec_len l.entries ≡ vec_len l.initial.entries;
  capacity : vec_capacity l.entries ≡ vec_capacity l.initial.entries;
}

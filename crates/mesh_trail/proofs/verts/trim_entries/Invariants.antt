use Rattle.std.proofs.Common.{◌≡◌}
use Rattle.std.specs.Vec.{vec_len, vec_capacity}
use Rattle.mesh_model.specs.ChangeSet.{same_vert}
use Rattle.mesh_trail.specs.Kept.{vert_in}
use Rattle.mesh_trail.proofs.Trims.{IsTrimming, differs_by}
use Rattle.mesh_trail.proofs.verts.trim_entries.Given as goal

abbrev pub invariant-loop-k : goal.invariant-loop-k
invariant-loop-k g l = record {
  steps : IsTrimming (differs_by (vert_in l.width l.values) same_vert (g.S.Shape.complex l.now).verts)
      l.initial.entries.items l.entries.items l.kept l.k;
  len : vec_len l.entries ≡ vec_len l.initial.entries;
  capacity : vec_capacity l.entries ≡ vec_capacity l.initial.entries;
}

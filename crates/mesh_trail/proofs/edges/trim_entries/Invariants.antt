use Rattle.std.proofs.Common.{◌≡◌}
use Rattle.std.specs.Vec.{vec_len, vec_capacity}
use Rattle.mesh_model.specs.ChangeSet.{same_edge}
use Rattle.mesh_trail.specs.Kept.{edge_in}
use Rattle.mesh_trail.proofs.Trims.{IsTrimming, differs_by}
use Rattle.mesh_trail.proofs.edges.trim_entries.Given as goal

abbrev pub invariant-loop-k : goal.invariant-loop-k
invariant-loop-k g l = record {
  steps : IsTrimming (differs_by (edge_in l.width l.values) same_edge (g.S.Shape.complex l.now).edges)
      l.initial.entries.items l.entries.items l.kept l.k;
  len : vec_len l.entries ≡ vec_len l.initial.entries;
  capacity : vec_capacity l.entries ≡ vec_capacity l.initial.entries;
}

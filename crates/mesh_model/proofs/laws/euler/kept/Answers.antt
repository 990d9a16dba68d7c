-- Each statement is the lemma of its call.
use Rattle.mesh_model.specs.Lookups.{edge_rec, corner_rec}
use Rattle.mesh_model.specs.Euler.{far_end, other_edge}
use Rattle.mesh_model.proofs.LoopReversals.{loop_reverse-twice, IsValid-loop_reverse, IsSound-loop_reverse}
use Rattle.mesh_model.proofs.EdgeSplits.{IsValid-split_edge, IsSound-split_edge}
use Rattle.mesh_model.proofs.EdgeJoins.{IsValid-join_edge, IsSound-join_edge}
use Rattle.mesh_model.proofs.FaceSplits.{IsValid-split_face, IsSound-split_face}
use Rattle.mesh_model.proofs.FaceJoins.{IsValid-join_face, IsSound-join_face}
use Rattle.mesh_model.proofs.Makings.{JoinsNone-edge_joining}
use Rattle.std.proofs.Common.{min, max}
use Rattle.mesh_model.proofs.laws.euler.kept.Goals as goal

pub returns-clause-twice : goal.returns-clause-twice
returns-clause-twice c = loop_reverse-twice

pub returns-clause-valid : goal.returns-clause-valid
returns-clause-valid c =
    (IsValid-split_edge, IsValid-join_edge, IsValid-split_face, IsValid-join_face, IsValid-loop_reverse)

pub returns-clause-sound : goal.returns-clause-sound
returns-clause-sound c = (
  IsSound-split_edge,
  (λ d e v test none h. IsSound-join_edge d e v test
      (JoinsNone-edge_joining d.edges (far_end v (edge_rec d e)) (far_end v (edge_rec d (other_edge d v e))) none) h),
  (λ d f i j test none h. IsSound-split_face d f i j test
      (JoinsNone-edge_joining d.edges (corner_rec d f (min i j)).vert (corner_rec d f (max i j)).vert none) h),
  IsSound-join_face,
  IsSound-loop_reverse,
)

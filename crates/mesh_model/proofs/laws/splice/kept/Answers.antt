-- Each statement is the lemma of its call.
use Rattle.mesh_model.proofs.Splices.{IsValid-splice_vert, IsValid-splice_edge, IsSimple-splice_edge}
use Rattle.mesh_model.proofs.SeparateCorners.{IsValid-separate_corner, IsSound-separate_corner}
use Rattle.mesh_model.proofs.SeparateVerts.{IsValid-separate_vert, IsSound-separate_vert}
use Rattle.mesh_model.proofs.laws.splice.kept.Goals as goal

pub returns : goal.returns
returns c = (
  IsValid-splice_vert,
  IsValid-splice_edge,
  IsValid-separate_corner,
  IsValid-separate_vert,
  (λ d from to test. IsSimple-splice_edge d from to),
  IsSound-separate_corner,
  IsSound-separate_vert,
)

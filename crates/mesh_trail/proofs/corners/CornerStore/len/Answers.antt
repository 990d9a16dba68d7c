use Rattle.std.proofs.Common.{arith}
use Rattle.mesh_trail.proofs.CornerRows.{length-corner_recs}
use Rattle.mesh_trail.proofs.corners.CornerStore.len.Goals as goal

pub returns : goal.returns
returns c = rw (
  ← c.self.view_is,
  length-corner_recs c.self.inside.width c.self.inside.pairs.items
      c.self.inside.values.items,
) (omega arith)

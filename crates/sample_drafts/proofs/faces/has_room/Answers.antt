use Rattle.std.proofs.Common.{arith}
use Rattle.sample_drafts.proofs.faces.has_room.Goals as goal

pub returns-clause-edges : goal.returns-clause-edges
returns-clause-edges c =
    λ yes material smooth. c.has_room.ensures.edges yes c.args.corners.now material smooth (omega arith)

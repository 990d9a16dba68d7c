use Rattle.mesh_core.specs.Seen.{now}
use Rattle.op_basic.proofs.MadeEdges.{pair_may}
use Rattle.op_basic.proofs.joining.join.Goals as goal

pub make_edge-requires-clause-differ : goal.make_edge-requires-clause-differ
make_edge-requires-clause-differ c =
    (pair_may (now c.args.mesh.now) c.args.verts.now c.requires.live c.requires.may).may.differ

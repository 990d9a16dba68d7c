use Rattle.mesh_model.specs.Table.{at}
use Rattle.mesh_core.specs.Seen.{now}
use Rattle.mesh_passes.proofs.Movings.{stays_somewhere}
use Rattle.mesh_passes.proofs.moving.move_vert.Goals as goal

pub unreachable-requires : goal.unreachable-requires
unreachable-requires g c = stays_somewhere (g.M.Motion.to c.args.motion.now)
    (at (now c.args.mesh.now).verts c.args.v.0) c.point-p.result c.moved.result c.requires c.point-p.ensures
    c.moved.ensures c.in-None.is

use Rattle.mesh_model.specs.Table.{at}
use Rattle.mesh_core.specs.Seen.{now}
use Rattle.mesh_passes.proofs.Movings.{point_on_grid, leaves_none, leaves_some}
use Rattle.mesh_passes.proofs.moving.leaves.Goals as goal

pub moved-requires : goal.moved-requires
moved-requires g c = point_on_grid (now c.args.mesh.now) c.args.v.0 c.point-p.result c.requires.valid c.point-p.ensures

pub returns-in-Some : goal.returns-in-Some
returns-in-Some g c = leaves_some (g.M.Motion.to c.args.motion.now) (at (now c.args.mesh.now).verts c.args.v.0)
    c.point-p.result _ c.moved.result c.point-p.ensures c.moved.ensures c.in-Some.is

pub returns-in-None : goal.returns-in-None
returns-in-None g c = leaves_none (g.M.Motion.to c.args.motion.now) (at (now c.args.mesh.now).verts c.args.v.0)
    c.point-p.result c.moved.result c.point-p.ensures c.moved.ensures c.in-None.is

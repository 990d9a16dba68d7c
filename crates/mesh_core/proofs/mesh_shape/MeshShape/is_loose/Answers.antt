use Rattle.mesh_core.specs.Seen.{now}
use Rattle.mesh_records.proofs.ReadBack.{none_is_loose}
use Rattle.mesh_core.proofs.mesh_shape.MeshShape.is_loose.Goals as goal

pub returns : goal.returns
returns c = none_is_loose (now c.args.self.now) c.args.e c.face_along.result c.is_none.result c.face_along.ensures
    c.is_none.ensures

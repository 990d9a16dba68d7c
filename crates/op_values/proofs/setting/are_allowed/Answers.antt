use Rattle.mesh_core.specs.Seen.{now}
use Rattle.op_values.specs.Putting.{layer_at}
use Rattle.op_values.proofs.Settings.{others_allowed}
use Rattle.op_values.proofs.setting.are_allowed.Goals as goal

pub returns-in_default : goal.returns-in_default
returns-in_default c =
    others_allowed (now c.args.mesh.now) c.args.kind (layer_at (now c.args.mesh.now) c.args.kind c.args.k)
    c.args.values.now c.in_default.not-Faces

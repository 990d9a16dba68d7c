use Rattle.std.proofs.Common.{ℕ, List, length, ap, arith}
use Rattle.mesh_model.specs.Table.{at}
use Rattle.mesh_model.specs.Complex.{corners_of}
use Rattle.mesh_model.specs.declared.names.FaceName.{FaceName}
use Rattle.mesh_core.specs.Seen.{now}
use Rattle.mesh_core.proofs.Places.{next_from}
use Rattle.mesh_core.proofs.corners.CornersInIterator.next.Goals as goal

pub returns-clause-steps : goal.returns-clause-steps
returns-clause-steps c =
    let count = c.corner_count.ensures in
    next_from c.args.self.now.face c.args.self.now.next (length
    (corners_of (at (now c.args.self.now.mesh.now).faces c.args.self.now.face.0))) (omega arith)

pub returns-clause-goes : goal.returns-clause-goes
returns-clause-goes c =
    let count = c.corner_count.ensures in
    let step = next_from c.args.self.now.face c.args.self.now.next
    (length (corners_of (at (now c.args.self.now.mesh.now).faces c.args.self.now.face.0))) (omega arith) in
    let long = ap (λ (ks : List (FaceName × ℕ)). length ks) step in
    record { on = λ h. (c.requires, tt, omega arith); keeps = c.requires; rests = λ h. tt }

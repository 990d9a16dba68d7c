use Rattle.std.proofs.Common.{ap, ◌∙◌}
use Rattle.mesh_core.specs.Seen.{now}
use Rattle.mesh_passes.specs.Killing.{without_set}
use Rattle.mesh_model.proofs.Deletings.{AreClosed-valid}
use Rattle.op_basic.proofs.deleting.kill_closure.Goals as goal

pub kill_set-requires-clause-closed : goal.kill_set-requires-clause-closed
kill_set-requires-clause-closed c = AreClosed-valid (now c.args.mesh.now) c.requires.valid

pub returns-clause-now : goal.returns-clause-now
returns-clause-now c = c.in_ok-kill_set.ensures.now
    ∙ ap (without_set (now c.args.mesh.now)) c.in_ok-set.ensures.closure

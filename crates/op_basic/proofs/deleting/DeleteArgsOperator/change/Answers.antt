use Rattle.std.proofs.Common.{sym, subst}
use Rattle.mesh_model.specs.Valid.{IsSound}
use Rattle.mesh_core.specs.Seen.{now}
use Rattle.mesh_passes.specs.Row.{no_slots}
use Rattle.mesh_passes.proofs.Steps.{done}
use Rattle.op_basic.specs.Deleting.{remaining}
use Rattle.op_basic.proofs.Deletions.{IsSound-remaining}
use Rattle.op_basic.proofs.deleting.DeleteArgsOperator.change.Goals as goal

pub returns-clause-outcome : goal.returns-clause-outcome
returns-clause-outcome c = done no_slots c.no_slots.result
    (remaining c.args.self.now.context c.args.self.now.geom (now c.args.mesh.now)) (now c.kill_by.new.mesh)
    c.no_slots.ensures c.in_ok-kill_by.ensures.now

pub returns-clause-sound : goal.returns-clause-sound
returns-clause-sound c = subst IsSound (sym c.in_ok-kill_by.ensures.now)
    (IsSound-remaining c.args.self.now.context c.args.self.now.geom (now c.args.mesh.now) c.requires.ready.sound)

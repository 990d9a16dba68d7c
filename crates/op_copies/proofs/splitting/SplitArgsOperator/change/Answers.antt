use Rattle.std.proofs.Common.{ap, sym, subst, ◌∙◌}
use Rattle.mesh_model.specs.Complex.{Complex}
use Rattle.mesh_model.specs.Elements.{Elements}
use Rattle.mesh_model.specs.Closure.{AreLive, closure}
use Rattle.mesh_model.specs.Valid.{IsSound, IsWithinLimits}
use Rattle.mesh_core.specs.Seen.{now}
use Rattle.mesh_passes.specs.Closed.{AreClosed}
use Rattle.mesh_passes.specs.Killing.{without_set}
use Rattle.mesh_passes.proofs.Conditions.{within_limits}
use Rattle.mesh_passes.proofs.Steps.{done}
use Rattle.mesh_copies.specs.Copying.{copy_slots}
use Rattle.op_copies.specs.Duplicating.{split_off}
use Rattle.op_copies.proofs.Counts.{live_copies}
use Rattle.op_copies.proofs.Splits.{closed_closure, names_split, few_split, AreClosed-copies, IsSound-split}
use Rattle.op_copies.proofs.splitting.SplitArgsOperator.change.Goals as goal

pub copy_set-requires-clause-closed : goal.copy_set-requires-clause-closed
copy_set-requires-clause-closed c =
    closed_closure (now c.args.mesh.now) c.args.self.now.geom c.in_ok-set.set c.in_ok-set.ensures.closure

pub copy_set-requires-clause-names : goal.copy_set-requires-clause-names
copy_set-requires-clause-names c =
    names_split (now c.args.mesh.now) c.in_ok-set.set
    (subst (λ (s : Elements). IsWithinLimits (split_off (now c.args.mesh.now) s)) (sym c.in_ok-set.ensures.closure)
    (within_limits (split_off (now c.args.mesh.now) (closure (now c.args.mesh.now) c.args.self.now.geom)) c.requires.may))

pub copy_set-requires-clause-few : goal.copy_set-requires-clause-few
copy_set-requires-clause-few c =
    few_split (now c.args.mesh.now) c.in_ok-set.set c.requires.ready.sound.valid
    (closed_closure (now c.args.mesh.now) c.args.self.now.geom c.in_ok-set.set c.in_ok-set.ensures.closure)
    c.in_ok-set.ensures.live

pub kill_set-requires-clause-closed : goal.kill_set-requires-clause-closed
kill_set-requires-clause-closed c =
    subst AreClosed (sym c.in_ok-slots.ensures.now)
    (AreClosed-copies (now c.args.mesh.now) c.in_ok-set.set c.requires.ready.sound.valid
    (closed_closure (now c.args.mesh.now) c.args.self.now.geom c.in_ok-set.set c.in_ok-set.ensures.closure))

pub kill_set-requires-clause-live : goal.kill_set-requires-clause-live
kill_set-requires-clause-live c =
    subst (λ (x : Complex). AreLive x c.in_ok-set.set) (sym c.in_ok-slots.ensures.now)
    (live_copies (now c.args.mesh.now) c.in_ok-set.set c.in_ok-set.ensures.live)

pub returns-clause-outcome : goal.returns-clause-outcome
returns-clause-outcome c =
    let s = closure (now c.args.mesh.now) c.args.self.now.geom in
    done (copy_slots (now c.args.mesh.now) s) c.in_ok-slots.slots (split_off (now c.args.mesh.now) s)
    (now c.kill_set.new.mesh)
    (c.in_ok-slots.ensures.slots ∙ ap (copy_slots (now c.args.mesh.now)) c.in_ok-set.ensures.closure)
    (c.in_ok-kill_set.ensures.now ∙ ap (λ (x : Complex). without_set x c.in_ok-set.set) c.in_ok-slots.ensures.now
    ∙ ap (split_off (now c.args.mesh.now)) c.in_ok-set.ensures.closure)

pub returns-clause-sound : goal.returns-clause-sound
returns-clause-sound c =
    let x = c.args.self.now.geom in
    let s = closure (now c.args.mesh.now) x in
    subst IsSound (sym (c.in_ok-kill_set.ensures.now ∙ ap (λ (d : Complex). without_set d c.in_ok-set.set)
    c.in_ok-slots.ensures.now ∙ ap (split_off (now c.args.mesh.now)) c.in_ok-set.ensures.closure))
    (IsSound-split (now c.args.mesh.now) s c.requires.ready.sound
    (ap (closure (now c.args.mesh.now)) (sym c.in_ok-set.ensures.closure)
    ∙ closed_closure (now c.args.mesh.now) x c.in_ok-set.set c.in_ok-set.ensures.closure
    ∙ c.in_ok-set.ensures.closure) c.requires.may)

pub returns-clause-base : goal.returns-clause-base
returns-clause-base c = c.kill_set.ensures.base ∙ c.copy_set.ensures.base

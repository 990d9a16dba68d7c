use Rattle.std.proofs.Common.{ap, sym, subst, ◌∙◌}
use Rattle.mesh_model.specs.Elements.{Elements}
use Rattle.mesh_model.specs.Closure.{closure}
use Rattle.mesh_model.specs.Valid.{IsWithinLimits}
use Rattle.mesh_core.specs.Seen.{now}
use Rattle.mesh_passes.proofs.Conditions.{within_limits}
use Rattle.mesh_passes.proofs.Steps.{done}
use Rattle.mesh_copies.specs.Copying.{with_copies, copy_slots}
use Rattle.op_copies.proofs.Splits.{closed_closure, names_copied, few_copied}
use Rattle.op_copies.proofs.duplicating.DuplicateArgsOperator.change.Goals as goal

pub copy_set-requires-clause-closed : goal.copy_set-requires-clause-closed
copy_set-requires-clause-closed c =
    closed_closure (now c.args.mesh.now) c.args.self.now.geom c.in_ok-set.set c.in_ok-set.ensures.closure

pub copy_set-requires-clause-names : goal.copy_set-requires-clause-names
copy_set-requires-clause-names c =
    names_copied (now c.args.mesh.now) c.in_ok-set.set
    (subst (λ (s : Elements). IsWithinLimits (with_copies (now c.args.mesh.now) s)) (sym c.in_ok-set.ensures.closure)
    (within_limits (with_copies (now c.args.mesh.now) (closure (now c.args.mesh.now) c.args.self.now.geom)) c.requires.may))

pub copy_set-requires-clause-few : goal.copy_set-requires-clause-few
copy_set-requires-clause-few c =
    few_copied (now c.args.mesh.now) c.in_ok-set.set
    (subst (λ (s : Elements). IsWithinLimits (with_copies (now c.args.mesh.now) s)) (sym c.in_ok-set.ensures.closure)
    (within_limits (with_copies (now c.args.mesh.now) (closure (now c.args.mesh.now) c.args.self.now.geom)) c.requires.may))

pub returns-clause-outcome : goal.returns-clause-outcome
returns-clause-outcome c =
    let s = closure (now c.args.mesh.now) c.args.self.now.geom in
    done (copy_slots (now c.args.mesh.now) s) c.in_ok-slots.slots (with_copies (now c.args.mesh.now) s)
    (now c.copy_set.new.mesh)
    (c.in_ok-slots.ensures.slots ∙ ap (copy_slots (now c.args.mesh.now)) c.in_ok-set.ensures.closure)
    (c.in_ok-slots.ensures.now ∙ ap (with_copies (now c.args.mesh.now)) c.in_ok-set.ensures.closure)

pub returns-clause-sound : goal.returns-clause-sound
returns-clause-sound c =
    let s = closure (now c.args.mesh.now) c.args.self.now.geom in
    c.in_ok-slots.ensures.sound c.requires.ready.sound
    (subst IsWithinLimits (sym (c.in_ok-slots.ensures.now
    ∙ ap (with_copies (now c.args.mesh.now)) c.in_ok-set.ensures.closure))
    (within_limits (with_copies (now c.args.mesh.now) s) c.requires.may))

use Rattle.std.proofs.Common.{ap, ◌∙◌}
use Rattle.mesh_model.specs.Elements.{Elements}
use Rattle.mesh_model.specs.Refusals.{limit_passed, refused_of, unless_too_many}
use Rattle.mesh_model.specs.declared.records.Counters.{Counters}
use Rattle.mesh_model.specs.declared.refusal.Why.TheVariants.{TooMany}
use Rattle.mesh_core.specs.Seen.{now}
use Rattle.mesh_copies.specs.Copying.{with_copies}
use Rattle.op_copies.proofs.duplicating.DuplicateArgsOperator.check.Goals as goal

pub returns : goal.returns
returns c = c.unless_too_many.ensures
    ∙ ap (λ (n : Counters). refused_of TooMany (limit_passed n)) c.counters_with_copies.ensures
    ∙ ap (λ (s : Elements). unless_too_many (with_copies (now c.args.mesh.now) s)) c.in_ok-set.ensures.closure

use Rattle.std.proofs.Common.{ap, ◌∙◌}
use Rattle.mesh_model.specs.Elements.{Elements}
use Rattle.mesh_model.specs.Refusals.{limit_passed, refused_of, unless_too_many}
use Rattle.mesh_model.specs.declared.records.Counters.{Counters}
use Rattle.mesh_model.specs.declared.refusal.Why.TheVariants.{TooMany}
use Rattle.mesh_core.specs.Seen.{now}
use Rattle.op_copies.specs.Duplicating.{split_off}
use Rattle.op_copies.proofs.Splits.{closed_closure}
use Rattle.op_copies.proofs.splitting.SplitArgsOperator.check.Goals as goal

pub counters_split_off-requires-clause-closed : goal.counters_split_off-requires-clause-closed
counters_split_off-requires-clause-closed c =
    closed_closure (now c.args.mesh.now) c.args.self.now.geom c.in_ok-set.set c.in_ok-set.ensures.closure

pub returns : goal.returns
returns c = c.unless_too_many.ensures
    ∙ ap (λ (n : Counters). refused_of TooMany (limit_passed n)) c.counters_split_off.ensures
    ∙ ap (λ (s : Elements). unless_too_many (split_off (now c.args.mesh.now) s)) c.in_ok-set.ensures.closure

use Rattle.std.proofs.Common.{sym, ap, ◌∙◌}
use Rattle.op_slots.specs.Bindings.{are_named_once}
use Rattle.op_slots.proofs.Naming.{once_front}
use Rattle.op_slots.proofs.bindings.Bindings.pop.Goals as goal

pub invariant_of-self : goal.invariant_of-self
invariant_of-self c = once_front c.pop.new.self.items _ (sym (ap are_named_once c.pop.ensures.items) ∙ c.self.invariant)

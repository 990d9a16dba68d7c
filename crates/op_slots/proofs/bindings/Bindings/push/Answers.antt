use Rattle.op_slots.proofs.Naming.{once_more}
use Rattle.op_slots.proofs.bindings.Bindings.push.Goals as goal

pub invariant_of-self : goal.invariant_of-self
invariant_of-self c = rw c.push_reserved.ensures.items (once_more c.self.inside.list.items
    (record { name = c.args.name; slots = c.args.slots }) c.self.invariant
    (rw (← c.self.view_is) at c.requires.unbound))

use Rattle.std.proofs.Common.{◌-◌, vec_len}
use Rattle.mesh_store.specs.Slots.{WidensTo}
use Rattle.mesh_store.proofs.named_pool.widen.Given as goal

abbrev pub invariant-loop-names : goal.invariant-loop-names
invariant-loop-names l = WidensTo l.initial.names.items l.names.items l.reach

abbrev pub decreases-loop-names : goal.decreases-loop-names
decreases-loop-names l = l.reach - vec_len l.names

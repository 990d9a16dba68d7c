use Rattle.std.proofs.Common.{◌-◌}
use Rattle.raw_pool.specs.Slots.{spare_count}
use Rattle.raw_pool.proofs.Growing.{Grown}
use Rattle.raw_pool.proofs.pool.Pool.reserve.Given as goal

abbrev pub invariant-loop-self : goal.invariant-loop-self
invariant-loop-self g l = Grown g.row.CHUNK l.initial.self l.self l.n

abbrev pub decreases-loop-self : goal.decreases-loop-self
decreases-loop-self g l = l.n - spare_count l.self

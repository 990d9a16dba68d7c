use Rattle.std.proofs.Common.{◌≡◌, ◌-◌, length}
use Rattle.raw_pool.specs.Slots.{spare_count}
use Rattle.mesh_store.proofs.Clearing.{FirstLeft}
use Rattle.mesh_store.proofs.store.empty.Given as goal

abbrev pub invariant-loop-next : goal.invariant-loop-next
invariant-loop-next g l = record {
  next : FirstLeft l.next l.pool 0;
  places : length l.pool ≡ length l.initial.pool;
}

abbrev pub decreases-loop-next : goal.decreases-loop-next
decreases-loop-next g l = length l.pool - spare_count l.pool

use Rattle.std.proofs.Common.{◌≡◌, ◌-◌, length}
use Rattle.raw_pool.specs.Slots.{spare_count}
use Rattle.mesh_store.specs.Naming.{AreNamed}
use Rattle.mesh_store.proofs.Clearing.{FirstLeft}
use Rattle.mesh_store.proofs.named_pool.NamedPool.clear.Given as goal

abbrev pub invariant-loop-next : goal.invariant-loop-next
invariant-loop-next g l = record {
  next : FirstLeft l.next l.self.cells 0;
  cells : length l.self.cells ≡ length l.initial.self.cells;
  names : length l.self.names ≡ length l.initial.self.names;
  named : AreNamed g.T.Numbered.number l.self.cells l.self.names;
}

abbrev pub decreases-loop-next : goal.decreases-loop-next
decreases-loop-next g l = length l.self.cells - spare_count l.self.cells

use Rattle.std.proofs.Common.{ℕ, ◌<◌, ◌-◌, length}
use Rattle.std.specs.List.{All}
use Rattle.obj_reader.proofs.marks.grow.Given as goal

abbrev pub invariant-loop-seen : goal.invariant-loop-seen
invariant-loop-seen l = (m : ℕ) → 0 < m → All (λ k. k < m) l.fn.seen.items → All (λ k. k < m) l.seen.items

abbrev pub decreases-loop-seen : goal.decreases-loop-seen
decreases-loop-seen l = l.verts - length l.seen.items

use Rattle.std.proofs.Common.{◌≤◌, ◌*◌, length}
use Rattle.raw_pool.specs.Inside.{rows, all_places, Even, Tagged}
use Rattle.raw_pool.proofs.chunks.free_all.Given as goal

abbrev pub invariant-loop-chunk : goal.invariant-loop-chunk
invariant-loop-chunk g l = record {
  even : Even l.len (rows l.chunks.items);
  tagged : Tagged (all_places l.chunks.items) l.tags.words.items;
  room : length (all_places l.chunks.items) ≤ length l.tags.words.items * 64;
}

abbrev pub decreases-loop-chunk : goal.decreases-loop-chunk
decreases-loop-chunk g l = goal.left-loop-chunk g l

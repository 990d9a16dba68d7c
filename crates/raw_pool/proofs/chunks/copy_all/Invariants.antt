use Rattle.std.proofs.Common.{◌≡◌, take, vec_len}
use Rattle.std.specs.Prelude.{vec_capacity}
use Rattle.raw_pool.specs.Inside.{rows}
use Rattle.raw_pool.proofs.chunks.copy_all.Given as goal

abbrev pub invariant-loop-index : goal.invariant-loop-index
invariant-loop-index g l = record {
  same : rows l.twins.items ≡ take l.index (rows l.chunks.items);
  count : vec_len l.twins ≡ l.index;
  capacity : vec_capacity l.twins ≡ vec_capacity l.initial.twins;
}

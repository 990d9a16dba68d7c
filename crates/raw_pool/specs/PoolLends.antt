-- What a pool ends as, once a `&mut` into it has ended.
use Rattle.std.specs.Prelude.{ℕ, List, Option, Some, slice_set}
use Rattle.std.specs.Borrow.{Fml, RattleType, MutBor, Lends}
use denote.Param.{number}
use Rattle.raw_pool.specs.contracts.pool.Pool.{the_row}

-- the slot holds the last value written through r, and all others are as they were
abbrev pub lends_slot : (R : RattleType) (n : ℕ) → MutBor (List (Option R.Denot)) → ℕ → MutBor R.Denot → Fml
lends_slot R n p s r = Lends (the_row R (number n)) R p r (λ w. slice_set p.now s (Some w))

-- Facts on the slots of a pool, for the crates above.
--     live_below, live_value      a live slot is below the capacity, and has a value
-- live_over, live_apart, live_longer a slot stays live under a write over its value, a write elsewhere, and growth
-- spare_less, spare_more, spare_same, spare_push the spare slots after `put`, `take`, a write through `get_mut`, and
-- growth
use Rattle.std.proofs.Common.{◌≢◌, ℕ, ◌<◌, ◌++◌, List, length, slice_set, Option, Some, None, ap, ◌∙◌}
use Rattle.std.proofs.lemmas.List.{get_or-set_same, get_or-set_other, get_or_append_left}
use Rattle.raw_pool.specs.Slots.{holds, IsLive}
use Rattle.raw_pool.proofs.Vacancy.{live_below as value_below}
pub use Rattle.raw_pool.proofs.Vacancy.{live_value, spare_less, spare_more, spare_same, spare_le}
pub use Rattle.raw_pool.proofs.Growing.{spare_push}

module _ {X : Type 0} (xs : List (Option X)) (s : ℕ) (live : IsLive xs s) where
  pub live_below : s < length xs
  live_below = let v = live_value xs s live in value_below xs s v.0 v.1

  pub live_over : (x : X) → IsLive (slice_set xs s (Some x)) s
  live_over x = ap holds (get_or-set_same xs s (Some x) None live_below)

  pub live_apart : (t : ℕ) (o : Option X) → s ≢ t → IsLive (slice_set xs t o) s
  live_apart t o n = ap holds (get_or-set_other xs t s o None n) ∙ live

  pub live_longer : (ys : List (Option X)) → IsLive (xs ++ ys) s
  live_longer ys = ap holds (get_or_append_left xs ys None s live_below) ∙ live

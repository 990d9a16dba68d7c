-- What stands at a place of a list of optional values, before and after a write.
use Rattle.std.proofs.Common.{◌≡◌, ℕ, ◌<◌, List, Option, Some, None, length}
use Rattle.std.specs.Prelude.{slice_set}
use Rattle.std.proofs.lemmas.List.{get_or-set_same, get_or-set_other}
use Rattle.raw_pool.proofs.Vacancy.{live_below as value_below}
use Rattle.mesh_store.specs.Slots.{at}

module _ {X : Type 0} (xs : List (Option X)) where
  -- what stands at a place stands within the list
  pub below : (s : ℕ) (x : X) → at xs s ≡ Some x → s < length xs
  below s x e = value_below xs s x e

  -- a write is read where it was written
  pub written : (s : ℕ) (o : Option X) → s < length xs → at (slice_set xs s o) s ≡ o
  written s o h = get_or-set_same xs s o None h

  -- and nowhere else
  pub unwritten : (s t : ℕ) (o : Option X) → (t ≡ s → ⊥) → at (slice_set xs s o) t ≡ at xs t
  unwritten s t o n = get_or-set_other xs s t o None n

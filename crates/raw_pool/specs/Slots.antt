-- A pool as the list of its slots: each holds a value or is vacant.
use Rattle.std.specs.Prelude.{◌≡◌, ◌≤◌, ◌<◌, ◌+◌, ◌++◌, ℕ, Bool, true, false, List, [], ◌∷◌, Option, Some, None, get_or, replicate}

-- whether there is a value
abbrev pub holds : {X : Type 0} → Option X → Bool
holds None = false
holds (Some x) = true

-- the slot holds a value
abbrev pub IsLive : {X : Type 0} → List (Option X) → ℕ → Type 0
IsLive xs s = holds (get_or xs s None) ≡ true

-- how many slots are vacant
abbrev pub spare_count : {X : Type 0} → List (Option X) → ℕ
spare_count [] = 0
spare_count (None ∷ xs) = spare_count xs + 1
spare_count (Some x ∷ xs) = spare_count xs

-- no slot from low on is live
abbrev pub NoneLiveFrom : {X : Type 0} → List (Option X) → ℕ → Type 0
NoneLiveFrom xs low = (k : ℕ) → low ≤ k → get_or xs k None ≡ None

-- the least live slot from low on
pub record IsFirstLive {X : Type 0} (xs : List (Option X)) (low s : ℕ) : Type 0 where
  pub from : low ≤ s
  pub live : IsLive xs s
  pub none : (k : ℕ) → low ≤ k → k < s → get_or xs k None ≡ None

-- each slot is as it was, and some vacant ones come after them: where the old pool had fewer spare ones than n, fewer
-- than what lacked and a chunk
pub record GrowsFor {X : Type 0} (old new : List (Option X)) (n chunk : ℕ) : Type 0 where
  pub more : ℕ
  pub same : new ≡ old ++ replicate more None
  pub few : spare_count old < n → spare_count old + more < n + chunk

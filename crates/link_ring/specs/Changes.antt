-- Links before and after a change.
use Rattle.std.specs.Prelude.{◌≡◌, List}
use Rattle.link_ring.specs.Members.{HasMember}
use Rattle.link_ring.specs.Ring.{LinkMap}

-- the keys are as before
abbrev pub SameKeys : {K : Type 0} → LinkMap K → LinkMap K → Type 0
SameKeys {K} old new = (j : K) → new.has j ≡ old.has j

-- `to` is now the next key of k, and all else is as before
pub record SetsNext {K : Type 0} (old new : LinkMap K) (k to : K) : Type 0 where
  pub has : SameKeys old new
  pub here : new.next k ≡ to
  pub others : (j : K) → (k ≡ j → ⊥) → new.next j ≡ old.next j
  pub prev : (j : K) → new.prev j ≡ old.prev j

-- `to` is now the previous key of k, and all else is as before
pub record SetsPrev {K : Type 0} (old new : LinkMap K) (k to : K) : Type 0 where
  pub has : SameKeys old new
  pub here : new.prev k ≡ to
  pub others : (j : K) → (k ≡ j → ⊥) → new.prev j ≡ old.prev j
  pub next : (j : K) → new.next j ≡ old.next j

-- the keys are as before, and so are the links of each key outside the list
pub record SameOutside {K : Type 0} (old new : LinkMap K) (xs : List K) : Type 0 where
  pub has : SameKeys old new
  pub next : (j : K) → (HasMember xs j → ⊥) → new.next j ≡ old.next j
  pub prev : (j : K) → (HasMember xs j → ⊥) → new.prev j ≡ old.prev j

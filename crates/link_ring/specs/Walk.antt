-- What a walk around a ring has left.
use Rattle.std.specs.Prelude.{◌≤◌, ℕ, zero, suc, ⊤, Bool, cond, List, [], ◌∷◌, Option, Some, None, length}
use Rattle.link_ring.specs.declared.iter.RingIter.{RingIter}
use Rattle.link_ring.specs.Members.{HasMember}
use Rattle.link_ring.specs.Ring.{LinkMap, IsSegment, AllKeys}

-- the keys that `next` leads through after `at`, until `first` comes, and at most n of them
abbrev pub path : {K : Type 0} → (K → K → Bool) → LinkMap K → K → ℕ → K → List K
path eq m first zero at = []
path eq m first (suc n) at = cond (eq (m.next at) first) [] (m.next at ∷ path eq m first n (m.next at))

-- a walk's items: from its next one to the last before `first`
abbrev pub items_from : {K : Type 0} → (K → K → Bool) → LinkMap K → ℕ → K → Option K → List K
items_from eq m limit first None = []
items_from eq m limit first (Some at) = at ∷ path eq m first limit at

-- the ring of `first` goes on from `at` along the list, and then is at `first` again
pub record GoesOn {K : Type 0} (m : LinkMap K) (limit : ℕ) (first at : K) (xs : List K) : Type 0 where
  pub leads : IsSegment m at xs first
  pub fresh : HasMember xs first → ⊥
  pub keys : AllKeys m (at ∷ xs)
  pub fits : length xs ≤ limit

-- the walk stands in a ring, or is at its end
abbrev pub IsOnRing : {K : Type 0} → (K → K → Bool) → LinkMap K → ℕ → K → Option K → Type 0
IsOnRing eq m limit first None = ⊤
IsOnRing eq m limit first (Some at) = GoesOn m limit first at (path eq m first limit at)

-- the items that a walk still gives
abbrev pub items_left : {K L : Type 0} → (K → K → Bool) → (L → LinkMap K) → (L → ℕ) → RingIter K L → List K
items_left eq links limit s = items_from eq (links s.links.now) (limit s.links.now) s.first s.at

-- a walk may be asked for its next item
abbrev pub CanWalk : {K L : Type 0} → (K → K → Bool) → (L → LinkMap K) → (L → ℕ) → RingIter K L → Type 0
CanWalk eq links limit s = IsOnRing eq (links s.links.now) (limit s.links.now) s.first s.at

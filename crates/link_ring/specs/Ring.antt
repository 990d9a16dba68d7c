-- What links are, and when they read as a ring: a circular doubly linked list.
use Rattle.std.specs.Prelude.{◌≡◌, ⊤, Bool, IsTrue, List, [], ◌∷◌, Option, Some, None}
use Rattle.link_ring.specs.Members.{HasMember, AllDistinct}

-- which keys there are, and the next and the previous key of each
pub record LinkMap (K : Type 0) : Type 0 where
  pub has : K → Bool
  pub next : K → K
  pub prev : K → K

-- each of the list is a key
abbrev pub AllKeys : {K : Type 0} → LinkMap K → List K → Type 0
AllKeys m [] = ⊤
AllKeys m (x ∷ xs) = IsTrue (m.has x) × AllKeys m xs

-- b is the next key of a, and a the previous key of b
abbrev pub Joins : {K : Type 0} → LinkMap K → K → K → Type 0
Joins m a b = (m.next a ≡ b) × (m.prev b ≡ a)

-- the links lead from a along the list to b, and back
abbrev pub IsSegment : {K : Type 0} → LinkMap K → K → List K → K → Type 0
IsSegment m a [] b = Joins m a b
IsSegment m a (x ∷ xs) b = Joins m a x × IsSegment m x xs b

-- the links lead from k along the list back to k, all of them different keys
pub record IsRingFrom {K : Type 0} (m : LinkMap K) (k : K) (xs : List K) : Type 0 where
  pub leads : IsSegment m k xs k
  pub distinct : AllDistinct (k ∷ xs)
  pub keys : AllKeys m (k ∷ xs)

-- the list is a ring, read from its first key; a ring of no keys is the empty list
abbrev pub IsRing : {K : Type 0} → LinkMap K → List K → Type 0
IsRing m [] = ⊤
IsRing m (k ∷ xs) = IsRingFrom m k xs

-- the first of a list
abbrev pub first_of : {K : Type 0} → List K → Option K
first_of [] = None
first_of (x ∷ xs) = Some x

-- the links read as the list from `first`, which is None where the list is empty
pub record ReadsAs {K : Type 0} (m : LinkMap K) (first : Option K) (xs : List K) : Type 0 where
  pub ring : IsRing m xs
  pub start : first ≡ first_of xs

-- k is in a ring
abbrev pub IsInRing : {K : Type 0} → LinkMap K → K → Type 0
IsInRing {K} m k = (xs : List K) × IsRingFrom m k xs

-- place is in a ring, and k is not in that ring
abbrev pub IsInRingWithout : {K : Type 0} → LinkMap K → K → K → Type 0
IsInRingWithout {K} m place k = (xs : List K) × IsRingFrom m place xs × (HasMember (place ∷ xs) k → ⊥)

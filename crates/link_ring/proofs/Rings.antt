-- A ring may be read from any member, it is one list from each, and links that agree on it have it both.
use Rattle.std.proofs.Common.{◌≡◌, IsTrue, List, [], ◌∷◌, ◌++◌, refl, sym, ap, ◌∙◌, subst, inl, inr, append-nil}
use Rattle.link_ring.specs.Members.{HasMember}
use Rattle.link_ring.specs.Ring.{LinkMap, AllKeys, IsRingFrom, IsRing}
use Rattle.link_ring.specs.Changes.{SameOutside}
use Rattle.link_ring.specs.Limits.{key_of}
use Rattle.link_ring.proofs.Members.{around, member_along, member_of, member_flip, distinct_flip}
use Rattle.link_ring.proofs.Segments.{is_key_along, keys_flip, segment_same, segment_split, segment_join, segment_unique, last_member, prev_last}

-- an equal list is a ring too
pub ring_along : {K : Type 0} (m : LinkMap K) (xs ys : List K) → xs ≡ ys → IsRing m xs → IsRing m ys
ring_along m xs ys e r = let P = IsRing m in subst P e r

-- a ring may be read from any of its members
pub turned : {K : Type 0} (m : LinkMap K) (xs ys : List K) → IsRing m (xs ++ ys) → IsRing m (ys ++ xs)
turned m [] [] r = r
turned m [] (y ∷ ys) r = ring_along m (y ∷ ys) ((y ∷ ys) ++ []) (simp append-nil) r
turned m (x ∷ xs) [] r = ring_along m ((x ∷ xs) ++ []) (x ∷ xs) (simp append-nil) r
turned m (x ∷ xs) (y ∷ ys) r =
    let s = segment_split m x xs y ys x r.leads in
    record {
      leads = segment_join m y ys x xs y s.right s.left;
      distinct = distinct_flip (x ∷ xs) (y ∷ ys) r.distinct;
      keys = keys_flip m (x ∷ xs) (y ∷ ys) r.keys;
    }

-- the ring of a key is one list
pub ring_unique : {K : Type 0} {m : LinkMap K} {k : K} {xs ys : List K} → IsRingFrom m k xs → IsRingFrom m k ys
    → xs ≡ ys
ring_unique {K} {m} {k} {xs} {ys} a b = segment_unique m k xs ys k a.leads b.leads a.distinct.0 b.distinct.0

-- a member of a ring, and the ring read from it
pub in_middle : {K : Type 0} (m : LinkMap K) (xs : List K) (k : K) (ys : List K) → IsRing m (xs ++ k ∷ ys)
    → IsRingFrom m k (ys ++ xs)
in_middle m xs k ys r = turned m xs (k ∷ ys) r

-- two rings that share a member have the same members
pub rings_meet : {K : Type 0} (m : LinkMap K) (xs ys : List K) (k j : K) → IsRing m xs → IsRing m ys → HasMember xs k
    → HasMember ys k → HasMember xs j → HasMember ys j
rings_meet m xs ys k j r s a b h =
    let x = around xs k a in let y = around ys k b in
    let same : x.after ++ x.before ≡ y.after ++ y.before = ring_unique
    (in_middle m x.before k x.after (ring_along m xs (x.before ++ k ∷ x.after) x.whole r))
    (in_middle m y.before k y.after (ring_along m ys (y.before ++ k ∷ y.after) y.whole s)) in
    let turned_x = member_flip x.before (k ∷ x.after) j (member_of j h x.whole) in
    let turned_y : HasMember (k ∷ y.after ++ y.before) j = member_of j turned_x (ap (λ (zs : List _). k ∷ zs) same) in
    member_of j (member_flip (k ∷ y.after) y.before j turned_y) (sym y.whole)

-- ---- neighbours

-- the next of a ring's key is in the ring
pub next_member : {K : Type 0} {m : LinkMap K} {k : K} (xs : List K) → IsRingFrom m k xs → HasMember (k ∷ xs) (m.next k)
next_member [] r = inl (sym r.leads.0)
next_member (y ∷ ys) r = inr (inl (sym r.leads.0.0))

-- and so is the previous
pub prev_member : {K : Type 0} {m : LinkMap K} {k : K} (xs : List K) → IsRingFrom m k xs → HasMember (k ∷ xs) (m.prev k)
prev_member {K} {m} {k} xs r = member_along (k ∷ xs) (last_member k xs) (sym (prev_last m k xs k r.leads))

-- the next of a ring's key is a key
pub next_key : {K : Type 0} {m : LinkMap K} {k : K} (xs : List K) → IsRingFrom m k xs → IsTrue (m.has (m.next k))
next_key {K} {m} {k} xs r = key_of m (k ∷ xs) (m.next k) r.keys (next_member xs r)

-- and so is the previous
pub prev_key : {K : Type 0} {m : LinkMap K} {k : K} (xs : List K) → IsRingFrom m k xs → IsTrue (m.has (m.prev k))
prev_key {K} {m} {k} xs r = key_of m (k ∷ xs) (m.prev k) r.keys (prev_member xs r)

-- ---- a ring that no change touched

-- n has the keys and links of m at each of the list
pub record SameOn {K : Type 0} (m n : LinkMap K) (xs : List K) : Type 0 where
  pub has : (j : K) → HasMember xs j → n.has j ≡ m.has j
  pub next : (j : K) → HasMember xs j → n.next j ≡ m.next j
  pub prev : (j : K) → HasMember xs j → n.prev j ≡ m.prev j

-- keys stay where the links agree
keys_on : {K : Type 0} (m n : LinkMap K) (xs : List K) → ((j : K) → HasMember xs j → n.has j ≡ m.has j) → AllKeys m xs
    → AllKeys n xs
keys_on m n [] f h = tt
keys_on m n (x ∷ xs) f h = (is_key_along (f x (inl refl)) h.0, keys_on m n xs (λ j a. f j (inr a)) h.1)

-- links that agree on a ring have it both
pub ring_same : {K : Type 0} {m n : LinkMap K} (xs : List K) → SameOn m n xs → IsRing m xs → IsRing n xs
ring_same [] s r = tt
ring_same {K} {m} {n} (k ∷ xs) s r = record {
  leads = segment_same m n k xs k s.next (λ j h. s.prev j (member_flip xs (k ∷ []) j h)) r.leads;
  distinct = r.distinct;
  keys = keys_on m n (k ∷ xs) s.has r.keys;
}

-- a ring that shares no member with a change is a ring after it
pub ring_elsewhere : {K : Type 0} {m n : LinkMap K} {zs : List K} (xs : List K)
    → SameOutside m n zs → ((j : K) → HasMember xs j → HasMember zs j → ⊥) → IsRing m xs → IsRing n xs
ring_elsewhere xs s apart r = ring_same xs (record {
  has = λ j h. s.has j;
  next = λ j h. s.next j (apart j h);
  prev = λ j h. s.prev j (apart j h);
}) r

-- one change, and then another
pub outside_then : {K : Type 0} {m n o : LinkMap K} {xs ys : List K} (zs : List K) → SameOutside m n xs
    → SameOutside n o ys
    → ((j : K) → HasMember xs j → HasMember zs j) → ((j : K) → HasMember ys j → HasMember zs j) → SameOutside m o zs
outside_then zs a b p q = record {
  has = λ j. b.has j ∙ a.has j;
  next = λ j h. b.next j (λ r. h (q j r)) ∙ a.next j (λ r. h (p j r));
  prev = λ j h. b.prev j (λ r. h (q j r)) ∙ a.prev j (λ r. h (p j r));
}

-- a change within a list is one within a larger list
pub outside_more : {K : Type 0} {m n : LinkMap K} {xs : List K} (zs : List K) → SameOutside m n xs
    → ((j : K) → HasMember xs j → HasMember zs j) → SameOutside m n zs
outside_more zs a p = record {
  has = a.has;
  next = λ j h. a.next j (λ r. h (p j r));
  prev = λ j h. a.prev j (λ r. h (p j r));
}

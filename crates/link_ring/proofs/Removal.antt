-- What `take_out` does to the links, and so to the ring.
use Rattle.std.proofs.Common.{◌≡◌, List, [], ◌∷◌, sym, ap, ◌∙◌}
use Rattle.link_ring.specs.Ring.{LinkMap, IsRingFrom, IsRing}
use Rattle.link_ring.specs.Changes.{SetsNext, SetsPrev, SameOutside}
use Rattle.link_ring.proofs.Members.{member_along}
use Rattle.link_ring.proofs.Segments.{keys_same, prev_last, segment_to}
use Rattle.link_ring.proofs.Rings.{next_member, prev_member}

-- the neighbours of k were joined
pub record Removed {K : Type 0} (m n : LinkMap K) (k : K) : Type 0 where
  pub next_before : n.next (m.prev k) ≡ m.next k
  pub prev_after : n.prev (m.next k) ≡ m.prev k
  pub next : (j : K) → (m.prev k ≡ j → ⊥) → n.next j ≡ m.next j
  pub prev : (j : K) → (m.next k ≡ j → ⊥) → n.prev j ≡ m.prev j
  pub has : (j : K) → n.has j ≡ m.has j

-- the two writes
pub removed : {K : Type 0} {m m1 n : LinkMap K} {k before after : K}
    → SetsNext m m1 before after → SetsPrev m1 n after before → before ≡ m.prev k → after ≡ m.next k → Removed m n k
removed {K} {m} {m1} {n} {k} a b p q = record {
  next_before = b.next (m.prev k) ∙ ap m1.next (sym p) ∙ a.here ∙ q;
  prev_after = ap n.prev (sym q) ∙ b.here ∙ p;
  next = λ j h. b.next j ∙ a.others j (λ e. h (sym p ∙ e));
  prev = λ j h. b.others j (λ e. h (sym q ∙ e)) ∙ a.prev j;
  has = λ j. b.has j ∙ a.has j;
}

-- the ring is the rest
pub removed_ring : {K : Type 0} {m n : LinkMap K} {k : K} (xs : List K) → Removed m n k → IsRingFrom m k xs
    → IsRing n xs
removed_ring [] t r = tt
removed_ring {K} {m} {n} {k} (y ∷ ys) t r =
    let after = r.leads.0.0 in let before = prev_last m y ys k r.leads.1 in
    record {
      leads = segment_to m n y ys k y r.distinct.1
          (ap n.next (sym before) ∙ t.next_before ∙ after)
          (ap n.prev (sym after) ∙ t.prev_after ∙ before)
          (λ j h. t.next j (λ e. h (sym before ∙ e)))
          (λ j a. t.prev j (λ e. r.distinct.1.0 (member_along ys a (sym (sym after ∙ e)))))
          r.leads.1;
      distinct = r.distinct.1;
      keys = keys_same m n (y ∷ ys) t.has r.keys.1;
    }

-- only links of k's ring are changed
pub removed_others : {K : Type 0} {m n : LinkMap K} {k : K} (xs : List K) → Removed m n k → IsRingFrom m k xs
    → SameOutside m n (k ∷ xs)
removed_others {K} {m} {n} {k} xs t r = record {
  has = t.has;
  next = λ j h. t.next j (λ e. h (member_along (k ∷ xs) (prev_member xs r) e));
  prev = λ j h. t.prev j (λ e. h (member_along (k ∷ xs) (next_member xs r) e));
}

-- A ring whose members have their two links exchanged reads the other way round.
use Rattle.std.proofs.Common.{◌≡◌, List, [], ◌∷◌, reverse, sym, subst, inl, inr}
use Rattle.std.proofs.lemmas.List.{reverse-append}
use Rattle.link_ring.specs.Members.{HasMember}
use Rattle.link_ring.specs.Ring.{LinkMap, IsSegment, IsRingFrom}
use Rattle.link_ring.specs.Changes.{SameOutside}
use Rattle.link_ring.proofs.Members.{member_cases, member_one, member_reverse, distinct_reverse}
use Rattle.link_ring.proofs.Segments.{keys_same, keys_reverse, segment_same, segment_join}

-- the same links, with next and previous exchanged
abbrev pub mirror : {K : Type 0} → LinkMap K → LinkMap K
mirror m = record { has = m.has; next = m.prev; prev = m.next }

-- the same segment, the other way round
pub segment-mirror : {K : Type 0} (m : LinkMap K) (a : K) (xs : List K) (b : K) → IsSegment m a xs b
    → IsSegment (mirror m) b (reverse xs) a
segment-mirror m a [] b l = (l.1, l.0)
segment-mirror {K} m a (x ∷ xs) b l =
    let P = λ (ys : List K). IsSegment (mirror m) b ys a in
    subst P (sym (reverse-append (x ∷ []) xs)) (segment_join (mirror m) b (reverse xs) x [] a
    (segment-mirror m x xs b l.1) (l.0.1, l.0.0))

-- each of the list has its two links exchanged, and each other key has the links that it had
pub record Exchanged {K : Type 0} (m n : LinkMap K) (done : List K) : Type 0 where
  pub has : (j : K) → n.has j ≡ m.has j
  pub next : (j : K) → HasMember done j → n.next j ≡ m.prev j
  pub prev : (j : K) → HasMember done j → n.prev j ≡ m.next j
  pub next_else : (j : K) → (HasMember done j → ⊥) → n.next j ≡ m.next j
  pub prev_else : (j : K) → (HasMember done j → ⊥) → n.prev j ≡ m.prev j

-- a ring whose members are all exchanged
pub exchanged_ring : {K : Type 0} {m n : LinkMap K} {k : K} (xs : List K) → Exchanged m n (k ∷ xs) → IsRingFrom m k xs
    → IsRingFrom n k (reverse xs)
exchanged_ring {K} {m} {n} {k} xs e r = record {
  leads = segment_same (mirror m) n k (reverse xs) k
      (λ j h. e.next j (elim h [ inl s ↦ inl s | inr a ↦ inr (member_reverse xs j a) ]))
      (λ j h. e.prev j (elim (member_cases (reverse xs) (k ∷ []) j h)
      [ inl a ↦ inr (member_reverse xs j a) | inr b ↦ inl (member_one b) ]))
      (segment-mirror m k xs k r.leads);
  distinct = ((λ a. r.distinct.0 (member_reverse xs k a)), distinct_reverse xs r.distinct.1);
  keys = let s = keys_same m n (k ∷ xs) e.has r.keys in (s.0, keys_reverse n xs s.1);
}

-- only links of the list are changed
pub exchanged_others : {K : Type 0} {m n : LinkMap K} (xs : List K) → Exchanged m n xs → SameOutside m n xs
exchanged_others xs e = record { has = e.has; next = e.next_else; prev = e.prev_else }

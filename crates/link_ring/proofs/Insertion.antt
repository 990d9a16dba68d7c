-- What `insert_after` does to the links, and so to the ring.
use Rattle.std.proofs.Common.{◌≡◌, IsTrue, List, [], ◌∷◌, sym, ap, ◌∙◌, subst, inl, inr}
use Rattle.link_ring.specs.Members.{HasMember}
use Rattle.link_ring.specs.Ring.{LinkMap, IsSegment, IsRingFrom, IsInRingWithout}
use Rattle.link_ring.specs.Changes.{SetsNext, SetsPrev, SameOutside}
use Rattle.link_ring.proofs.Members.{member_along, member_cases, member_one}
use Rattle.link_ring.proofs.Segments.{is_key_along, keys_same, segment_same}
use Rattle.link_ring.proofs.Rings.{ring_unique, next_member}

-- k was put between place and the key that followed it
pub record Inserted {K : Type 0} (m n : LinkMap K) (place k : K) : Type 0 where
  pub next_place : n.next place ≡ k
  pub next_k : n.next k ≡ m.next place
  pub prev_k : n.prev k ≡ place
  pub prev_after : n.prev (m.next place) ≡ k
  pub next : (j : K) → (place ≡ j → ⊥) → (k ≡ j → ⊥) → n.next j ≡ m.next j
  pub prev : (j : K) → (k ≡ j → ⊥) → (m.next place ≡ j → ⊥) → n.prev j ≡ m.prev j
  pub has : (j : K) → n.has j ≡ m.has j

-- the four writes
pub inserted : {K : Type 0} {m m1 m2 m3 n : LinkMap K} {place k after : K} → IsInRingWithout m place k
    → SetsNext m m1 place k → SetsPrev m1 m2 k place → SetsNext m2 m3 k after → SetsPrev m3 n after k
    → after ≡ m.next place → Inserted m n place k
inserted {K} {m} {m1} {m2} {m3} {n} {place} {k} {after} w a b c d e =
    let out : HasMember (place ∷ w.0) k → ⊥ = w.2 in
    let other : k ≡ place → ⊥ = λ h. out (inl (sym h)) in
    let beyond : k ≡ after → ⊥ = λ h. out (member_along (place ∷ w.0) (next_member w.0 w.1) (sym (h ∙ e))) in
    record {
      next_place = d.next place ∙ c.others place other ∙ b.next place ∙ a.here;
      next_k = d.next k ∙ c.here ∙ e;
      prev_k = d.others k (λ h. beyond (sym h)) ∙ c.prev k ∙ b.here;
      prev_after = ap n.prev (sym e) ∙ d.here;
      next = λ j h i. d.next j ∙ c.others j i ∙ b.next j ∙ a.others j h;
      prev = λ j h i. d.others j (λ f. i (sym e ∙ f)) ∙ c.prev j ∙ b.others j h ∙ a.prev j;
      has = λ j. d.has j ∙ c.has j ∙ b.has j ∙ a.has j;
    }

-- k is in no list that the ring of place reads as
pub is_outside : {K : Type 0} {m : LinkMap K} {place k : K} (xs : List K) → IsInRingWithout m place k
    → IsRingFrom m place xs → HasMember (place ∷ xs) k → ⊥
is_outside {K} {m} {place} {k} xs w r =
    let P = λ (ys : List K). HasMember (place ∷ ys) k → ⊥ in
    subst P (ring_unique w.1 r) w.2

-- the ring beyond k is the old one beyond place
inserted_segment : {K : Type 0} {m n : LinkMap K} {place k : K} (y : K) (ys : List K) → Inserted m n place k
    → IsRingFrom m place (y ∷ ys)
    → (HasMember (place ∷ y ∷ ys) k → ⊥) → IsSegment n y ys place
inserted_segment {K} {m} {n} {place} {k} y ys i r out =
    let after = r.leads.0.0 in
    segment_same m n y ys place
    (λ j a. i.next j (λ e. r.distinct.0 (member_along (y ∷ ys) a (sym e)))
    (λ e. out (inr (member_along (y ∷ ys) a (sym e)))))
    (λ j a. elim (member_cases ys (place ∷ []) j a) [
      | inl b ↦ i.prev j (λ e. out (inr (inr (member_along ys b (sym e)))))
          (λ e. r.distinct.1.0 (member_along ys b (sym (sym after ∙ e))))
      | inr b ↦ (let e : place ≡ j = member_one b in i.prev j (λ g. out (inl (e ∙ sym g)))
          (λ g. r.distinct.0 (inl (sym after ∙ g ∙ sym e))))
    ])
    r.leads.1

-- k stands right after place
pub inserted_ring : {K : Type 0} {m n : LinkMap K} {place k : K} (xs : List K) → Inserted m n place k
    → IsRingFrom m place xs
    → IsTrue (m.has k) → (HasMember (place ∷ xs) k → ⊥) → IsRingFrom n place (k ∷ xs)
inserted_ring {K} {m} {n} {place} {k} [] i r h out = record {
  leads = ((i.next_place, i.prev_k), (i.next_k ∙ r.leads.0, ap n.prev (sym r.leads.0) ∙ i.prev_after));
  distinct = ((λ a. out (inl (sym (member_one a)))), ((λ b. b), tt));
  keys = let s = keys_same m n (place ∷ []) i.has r.keys in (s.0, (is_key_along (i.has k) h, tt));
}
inserted_ring {K} {m} {n} {place} {k} (y ∷ ys) i r h out =
    let after = r.leads.0.0 in
    record {
      leads = (
        (i.next_place, i.prev_k),
        (
          (i.next_k ∙ after, ap n.prev (sym after) ∙ i.prev_after),
          inserted_segment y ys i r out,
        ),
      );
      distinct = (
        (λ a. elim a [ inl e ↦ out (inl (sym e)) | inr b ↦ r.distinct.0 b ]),
        ((λ a. out (inr a)), r.distinct.1),
      );
      keys = let s = keys_same m n (place ∷ y ∷ ys) i.has r.keys in (s.0, (is_key_along (i.has k) h, s.1));
    }

-- only links of place's ring and of k are changed
pub inserted_others : {K : Type 0} {m n : LinkMap K} {place k : K} (xs : List K) → Inserted m n place k
    → IsRingFrom m place xs → SameOutside m n (k ∷ place ∷ xs)
inserted_others {K} {m} {n} {place} {k} xs i r = record {
  has = i.has;
  next = λ j h. i.next j (λ e. h (inr (inl e))) (λ e. h (inl e));
  prev = λ j h. i.prev j (λ e. h (inl e)) (λ e. h (inr (member_along (place ∷ xs) (next_member xs r) e)));
}

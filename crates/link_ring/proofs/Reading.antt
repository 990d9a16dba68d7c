-- For the layers above: a ring that is read from a first key, which may be None, before and after each call.
--
-- A lemma on a call takes what the call ensures as it stands there: `put`, `take`, `swap` and `turn` are the
-- clause `ring`, and `kept` is the clause `others`. `m` has the links before the call, and `n` those after it.
use Rattle.std.proofs.Common.{◌≡◌, IsTrue, List, [], ◌∷◌, ◌++◌, reverse, Option, Some, None, refl, sym, ap, ◌∙◌, subst, inl, inr, append_assoc}
use Rattle.link_ring.specs.Members.{HasMember}
use Rattle.link_ring.specs.Ring.{LinkMap, IsRingFrom, IsRing, ReadsAs, IsInRing, IsInRingWithout, first_of}
use Rattle.link_ring.specs.Changes.{SameOutside}
use Rattle.link_ring.proofs.Members.{around, member_of, member_flip, member_right}
use Rattle.link_ring.proofs.Segments.{last_of, prev_last, UpToLast, up_to_last}
use Rattle.link_ring.proofs.Rings.{turned, in_middle, ring_unique, ring_along, ring_elsewhere, outside_more}

-- ---- what a reading says

-- the first key begins the list
pub first_begins : {K : Type 0} {m : LinkMap K} {k : K} {zs : List K} → ReadsAs m (Some k) zs
    → (xs : List K) × (zs ≡ k ∷ xs)
first_begins {zs = []} r = absurd (let e = r.start in cc)
first_begins {zs = z ∷ zs} r = (zs, (let e = r.start in cc))

-- the same reading, by an equal first key
pub reads_at : {K : Type 0} {m : LinkMap K} {first other : Option K} {zs : List K} → ReadsAs m first zs → first ≡ other
    → ReadsAs m other zs
reads_at r e = record { ring = r.ring; start = sym e ∙ r.start }

-- the same reading, of an equal list
pub reads_along : {K : Type 0} {m : LinkMap K} {first : Option K} {zs ys : List K} → ReadsAs m first zs → zs ≡ ys
    → ReadsAs m first ys
reads_along {K} {m} {first} r e = let P = ReadsAs m first in subst P e r

-- a ring that starts with k reads from k
pub reads_from : {K : Type 0} {m : LinkMap K} {k : K} {xs : List K} → IsRingFrom m k xs → ReadsAs m (Some k) (k ∷ xs)
reads_from r = record { ring = r; start = refl }

-- where there is no first key, the list is empty
pub none_reads : {K : Type 0} {m : LinkMap K} {zs : List K} → ReadsAs m None zs → zs ≡ []
none_reads {zs = []} r = refl
none_reads {zs = z ∷ zs} r = absurd (let e = r.start in cc)

-- a first key has one reading
pub reads_unique : {K : Type 0} {m : LinkMap K} {first : Option K} {xs ys : List K} → ReadsAs m first xs
    → ReadsAs m first ys → xs ≡ ys
reads_unique {xs = []} {ys = []} a b = refl
reads_unique {xs = []} {ys = y ∷ ys} a b = absurd (let e = a.start in let f = b.start in cc)
reads_unique {xs = x ∷ xs} {ys = []} a b = absurd (let e = a.start in let f = b.start in cc)
reads_unique {K} {m = m} {xs = x ∷ xs} {ys = y ∷ ys} a b =
    let same : y ≡ x = (let e = a.start in let f = b.start in cc) in
    let P = λ (k : K). IsRingFrom m k ys in
    ap (λ (zs : List K). x ∷ zs) (ring_unique a.ring (subst P same b.ring)) ∙ ap (λ (k : K). k ∷ ys) (sym same)

-- ---- the conditions of the calls

-- the first key is in a ring, as `reverse` and `walk` ask
pub first_in_ring : {K : Type 0} {m : LinkMap K} {k : K} {zs : List K} → ReadsAs m (Some k) zs → IsInRing m k
first_in_ring {K} {m} {k} {zs} r = let s = first_begins r in (s.0, ring_along m zs (k ∷ s.0) s.1 r.ring)

-- the first key is a key
pub first_key : {K : Type 0} {m : LinkMap K} {k : K} {zs : List K} → ReadsAs m (Some k) zs → IsTrue (m.has k)
first_key r = (first_in_ring r).1.keys.0

-- a member is in a ring, as `take_out` asks
pub member_in_ring : {K : Type 0} {m : LinkMap K} {first : Option K} {zs : List K} (k : K) → ReadsAs m first zs
    → HasMember zs k → IsInRing m k
member_in_ring {K} {m} {first} {zs} k r h =
    let s = around zs k h in
    (s.after ++ s.before, in_middle m s.before k s.after (ring_along m zs (s.before ++ k ∷ s.after) s.whole r.ring))

-- what is no member is not in a member's ring, as `insert_after` and `swap_member` ask
pub member_without : {K : Type 0} {m : LinkMap K} {first : Option K} {zs : List K} (place k : K) → ReadsAs m first zs
    → HasMember zs place → (HasMember zs k → ⊥) → IsInRingWithout m place k
member_without {K} {m} {first} {zs} place k r h out =
    let s = around zs place h in (
      s.after ++ s.before,
      in_middle m s.before place s.after (ring_along m zs (s.before ++ place ∷ s.after) s.whole r.ring),
      λ a. out (member_of k (member_flip (place ∷ s.after) s.before k a) (sym s.whole)),
    )

-- ---- elsewhere: a reading that shares no member with a change stays

pub reads_elsewhere : {K : Type 0} {m n : LinkMap K} {first : Option K} {xs zs : List K} → SameOutside m n zs
    → ((j : K) → HasMember xs j → HasMember zs j → ⊥) → ReadsAs m first xs → ReadsAs n first xs
reads_elsewhere {K} {m} {n} {first} {xs} s apart r = record { ring = ring_elsewhere xs s apart r.ring; start = r.start }

-- ---- a key is put in: after one in the middle

-- the first of the list is the same
start_put : {K : Type 0} (xs : List K) (place k : K) (ys : List K)
    → first_of (xs ++ place ∷ ys) ≡ first_of (xs ++ place ∷ k ∷ ys)
start_put [] place k ys = refl
start_put (x ∷ xs) place k ys = refl

-- the list has k right after place
pub put_in_middle : {K : Type 0} {m : LinkMap K} (n : LinkMap K) {first : Option K} (xs : List K) (place k : K)
    (ys : List K) → ReadsAs m first (xs ++ place ∷ ys)
    → (put : (zs : List K) → IsRing m (place ∷ zs) → IsRing n (place ∷ k ∷ zs)) → ReadsAs n first (xs ++ place ∷ k ∷ ys)
put_in_middle {m = m} n xs place k ys r put = record {
  ring = turned n (place ∷ k ∷ ys) xs (put (ys ++ xs) (in_middle m xs place ys r.ring));
  start = r.start ∙ start_put xs place k ys;
}

-- links of keys outside the list stay, but for those of k
pub put_others : {K : Type 0} {m n : LinkMap K} {first : Option K} (xs : List K) (place k : K) (ys : List K)
    → ReadsAs m first (xs ++ place ∷ ys)
    → (kept : (zs : List K) → IsRing m (place ∷ zs) → SameOutside m n (k ∷ place ∷ zs))
    → SameOutside m n (k ∷ xs ++ place ∷ ys)
put_others {m = m} xs place k ys r kept =
    outside_more (k ∷ xs ++ place ∷ ys) (kept (ys ++ xs) (in_middle m xs place ys r.ring))
    (λ j h. elim h [ inl e ↦ inl e | inr t ↦ inr (member_flip (place ∷ ys) xs j t) ])

-- ---- a key is put in: after the last, which is the one before the first

-- the list up to its last
pub last_before_first : {K : Type 0} {m : LinkMap K} {first last : K} {zs : List K} → ReadsAs m (Some first) zs
    → last ≡ m.prev first → UpToLast zs last
last_before_first {zs = []} r e = absurd (let f = r.start in cc)
last_before_first {K} {m = m} {first = first} {last = last} {zs = z ∷ zs} r e =
    let same : z ≡ first = (let f = r.start in cc) in
    let is : last_of z zs ≡ last = sym (prev_last m z zs z r.ring.leads) ∙ ap m.prev same ∙ sym e in
    let P = UpToLast (z ∷ zs) in
    subst P is (up_to_last z zs)

-- what is no member is not in the last's ring, as `insert_after` asks
pub last_without : {K : Type 0} {m : LinkMap K} {first last : K} {zs : List K} (k : K) → ReadsAs m (Some first) zs
    → last ≡ m.prev first → (HasMember zs k → ⊥) → IsInRingWithout m last k
last_without {K} {m} {first} {last} {zs} k r e out =
    let s = last_before_first r e in
    member_without last k r (member_of last (member_right s.front (last ∷ []) last (inl refl)) (sym s.whole)) out

-- the list has k at its end
pub pushed_last : {K : Type 0} {m : LinkMap K} (n : LinkMap K) {first last : K} {zs : List K} (k : K)
    → ReadsAs m (Some first) zs → last ≡ m.prev first
    → (put : (xs : List K) → IsRing m (last ∷ xs) → IsRing n (last ∷ k ∷ xs)) → ReadsAs n (Some first) (zs ++ k ∷ [])
pushed_last {K} n {first} {last} {zs} k r e put =
    let s = last_before_first r e in
    let whole : s.front ++ last ∷ k ∷ [] ≡ zs ++ k ∷ [] =
    sym (append_assoc s.front (last ∷ []) (k ∷ [])) ∙ ap (λ (ys : List K). ys ++ k ∷ []) (sym s.whole) in
    reads_along (put_in_middle n s.front last k [] (reads_along r s.whole) put) whole

-- links of keys outside the list stay, but for those of k
pub pushed_others : {K : Type 0} {m n : LinkMap K} {first last : K} {zs : List K} (k : K) → ReadsAs m (Some first) zs
    → last ≡ m.prev first
    → (kept : (xs : List K) → IsRing m (last ∷ xs) → SameOutside m n (k ∷ last ∷ xs)) → SameOutside m n (k ∷ zs)
pushed_others {K} {m} {n} {first} {last} {zs} k r e kept =
    let s = last_before_first r e in
    let P = λ (ys : List K). SameOutside m n (k ∷ ys) in
    subst P (sym s.whole) (put_others s.front last k [] (reads_along r s.whole) kept)

-- ---- a key is taken out

-- the list without k
pub taken_from_middle : {K : Type 0} (m n : LinkMap K) (xs : List K) (k : K) (ys : List K) → IsRing m (xs ++ k ∷ ys)
    → (take : (zs : List K) → IsRing m (k ∷ zs) → IsRing n zs) → IsRing n (xs ++ ys)
taken_from_middle m n xs k ys r take = turned n ys xs (take (ys ++ xs) (in_middle m xs k ys r))

-- links of keys outside the list stay
pub taken_others : {K : Type 0} (m : LinkMap K) {n : LinkMap K} (xs : List K) (k : K) (ys : List K)
    → IsRing m (xs ++ k ∷ ys)
    → (kept : (zs : List K) → IsRing m (k ∷ zs) → SameOutside m n (k ∷ zs)) → SameOutside m n (xs ++ k ∷ ys)
taken_others m xs k ys r kept = outside_more (xs ++ k ∷ ys) (kept (ys ++ xs) (in_middle m xs k ys r))
    (λ j h. member_flip (k ∷ ys) xs j h)

-- the first key stands nowhere else
pub none_before_first : {K : Type 0} {m : LinkMap K} {k : K} (xs ys : List K) → ReadsAs m (Some k) (xs ++ k ∷ ys)
    → xs ≡ []
none_before_first [] ys r = refl
none_before_first {K} {m} {k} (x ∷ xs) ys r =
    let same : x ≡ k = (let e = r.start in cc) in
    let P = HasMember (xs ++ k ∷ ys) in
    absurd (r.ring.distinct.0 (subst P (sym same) (member_right xs (k ∷ ys) k (inl refl))))

-- a first that is not k stands before it
start_other : {K : Type 0} {first : Option K} (xs : List K) (k : K) (ys zs : List K) → (first ≡ Some k → ⊥)
    → first ≡ first_of (xs ++ k ∷ ys) → first ≡ first_of (xs ++ zs)
start_other [] k ys zs ne e = absurd (ne e)
start_other (x ∷ xs) k ys zs ne e = e

-- a key that was not the first is out: the first stays
pub first_stays : {K : Type 0} {m : LinkMap K} (n : LinkMap K) {first : Option K} (xs : List K) (k : K) (ys : List K)
    → ReadsAs m first (xs ++ k ∷ ys)
    → (first ≡ Some k → ⊥) → (take : (zs : List K) → IsRing m (k ∷ zs) → IsRing n zs) → ReadsAs n first (xs ++ ys)
first_stays {m = m} n xs k ys r ne take =
    record { ring = taken_from_middle m n xs k ys r.ring take; start = start_other xs k ys ys ne r.start }

-- the first is out: its follower is the first
pub first_moves_on : {K : Type 0} {m : LinkMap K} (n : LinkMap K) (follower : Option K) (xs : List K) (k : K)
    (ys : List K) → ReadsAs m (Some k) (xs ++ k ∷ ys)
    → (take : (zs : List K) → IsRing m (k ∷ zs) → IsRing n zs)
    → (follows : (zs : List K) → IsRing m (k ∷ zs) → follower ≡ first_of zs)
    → ReadsAs n follower (xs ++ ys)
first_moves_on {K} {m} n follower xs k ys r take follows =
    let none : xs ≡ [] = none_before_first xs ys r in
    let ring : IsRing m (k ∷ ys) = ring_along m (xs ++ k ∷ ys) (k ∷ ys) (ap (λ (zs : List K). zs ++ k ∷ ys) none) r.ring
    in
    let reads : ReadsAs n follower ys = record { ring = take ys ring; start = follows ys ring } in
    reads_along reads (ap (λ (zs : List K). zs ++ ys) (sym none))

-- ---- a member is swapped

-- the list has new in the place of old
pub swapped_in_middle : {K : Type 0} (m n : LinkMap K) (xs : List K) (old new : K) (ys : List K)
    → IsRing m (xs ++ old ∷ ys)
    → (swap : (zs : List K) → IsRing m (old ∷ zs) → IsRing n (new ∷ zs)) → IsRing n (xs ++ new ∷ ys)
swapped_in_middle m n xs old new ys r swap = turned n (new ∷ ys) xs (swap (ys ++ xs) (in_middle m xs old ys r))

-- links of keys outside the list stay, but for those of new
pub swapped_others : {K : Type 0} (m : LinkMap K) {n : LinkMap K} (xs : List K) (old new : K) (ys : List K)
    → IsRing m (xs ++ old ∷ ys)
    → (kept : (zs : List K) → IsRing m (old ∷ zs) → SameOutside m n (new ∷ old ∷ zs))
    → SameOutside m n (new ∷ xs ++ old ∷ ys)
swapped_others m xs old new ys r kept =
    outside_more (new ∷ xs ++ old ∷ ys) (kept (ys ++ xs) (in_middle m xs old ys r))
    (λ j h. elim h [ inl e ↦ inl e | inr t ↦ inr (member_flip (old ∷ ys) xs j t) ])

-- a member that was not the first
pub swapped_stays : {K : Type 0} {m : LinkMap K} (n : LinkMap K) {first : Option K} (xs : List K) (old new : K)
    (ys : List K) → ReadsAs m first (xs ++ old ∷ ys)
    → (first ≡ Some old → ⊥) → (swap : (zs : List K) → IsRing m (old ∷ zs) → IsRing n (new ∷ zs))
    → ReadsAs n first (xs ++ new ∷ ys)
swapped_stays {m = m} n xs old new ys r ne swap =
    record {
      ring = swapped_in_middle m n xs old new ys r.ring swap;
      start = start_other xs old ys (new ∷ ys) ne r.start;
    }

-- the first
pub swapped_first : {K : Type 0} {m : LinkMap K} (n : LinkMap K) (xs : List K) (old new : K) (ys : List K)
    → ReadsAs m (Some old) (xs ++ old ∷ ys)
    → (swap : (zs : List K) → IsRing m (old ∷ zs) → IsRing n (new ∷ zs)) → ReadsAs n (Some new) (xs ++ new ∷ ys)
swapped_first {K} {m = m} n xs old new ys r swap =
    let none : xs ≡ [] = none_before_first xs ys r in
    record {
      ring = swapped_in_middle m n xs old new ys r.ring swap;
      start = ap (λ (zs : List K). first_of (zs ++ new ∷ ys)) (sym none);
    }

-- ---- a ring is turned the other way round, or walked

-- the first stays, and the rest comes in opposite order
pub turned_round : {K : Type 0} {m : LinkMap K} (n : LinkMap K) (k : K) (xs : List K) → ReadsAs m (Some k) (k ∷ xs)
    → (turn : (zs : List K) → IsRing m (k ∷ zs) → IsRing n (k ∷ reverse zs)) → ReadsAs n (Some k) (k ∷ reverse xs)
turned_round n k xs r turn = reads_from (turn xs r.ring)

-- a walk from the first key gives the list
pub walked : {K : Type 0} {m : LinkMap K} {first : K} {zs : List K} (given : List K) → ReadsAs m (Some first) zs
    → (items : (xs : List K) → IsRing m (first ∷ xs) → given ≡ first ∷ xs) → given ≡ zs
walked {K} {m} {first} {zs} given r items = let s =
    first_begins r in items s.0 (ring_along m zs (first ∷ s.0) s.1 r.ring) ∙ sym s.1

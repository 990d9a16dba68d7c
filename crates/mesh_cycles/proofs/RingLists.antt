-- A ring that is read from a first key, and its list: one member more, one less, and what the links lead through.
use Rattle.std.proofs.Common.{◌≡◌, ◌+◌, ℕ, Bool, true, false, IsTrue, List, [], ◌∷◌, ◌++◌, Option, Some, None, refl, sym, ap, ◌∙◌, subst, inl, inr, length, length-append, arith}
use Rattle.std.specs.Option.{option_eq}
use Rattle.std.proofs.lemmas.Bool.{false_from_ne_true, false≢true}
use Rattle.link_ring.specs.Members.{HasMember, AllDistinct}
use Rattle.link_ring.specs.Ring.{LinkMap, AllKeys, IsRing, ReadsAs}
use Rattle.link_ring.specs.Changes.{SameOutside}
use Rattle.link_ring.proofs.Members.{around, member_of, member_left, member_right, member_cases, distinct_parts}
use Rattle.link_ring.proofs.Paths.{IsIdentityTest, IsLimit}
use Rattle.link_ring.proofs.Walks.{path-goes_on, walk_start}
use Rattle.link_ring.proofs.Reading.{member_in_ring, reads_along, taken_others}
use Rattle.mesh_cycles.specs.Lists.{ring_list, without, with_behind, from_member, before_member}

-- ---- `==` on a first key

-- where the test says that the first key is k, it is
pub first_is : {K : Type 0} (eq : K → K → Bool) → IsIdentityTest eq → (first : Option K) (k : K)
    → option_eq eq first (Some k) ≡ true → first ≡ Some k
first_is eq t None k h = absurd (false≢true h)
first_is {K} eq t (Some x) k h = ap (λ (y : K). Some y) (t.one x k h)

-- where it says that it isn't, it isn't
pub first_isnt : {K : Type 0} (eq : K → K → Bool) → IsIdentityTest eq → (first : Option K) (k : K)
    → option_eq eq first (Some k) ≡ false → first ≡ Some k → ⊥
first_isnt {K} eq t first k h e = false≢true (sym h ∙ ap (λ (o : Option K). option_eq eq o (Some k)) e ∙ t.same k)

-- ---- a member is taken out

-- links of keys outside the list stay
pub taken_outside : {K : Type 0} {m n : LinkMap K} {first : Option K} {zs : List K} (k : K) → ReadsAs m first zs
    → HasMember zs k
    → (kept : (xs : List K) → IsRing m (k ∷ xs) → SameOutside m n (k ∷ xs)) → SameOutside m n zs
taken_outside {K} {m} {n} {first} {zs} k r h kept =
    let s = around zs k h in
    let P = SameOutside m n in
    let back : s.before ++ k ∷ s.after ≡ zs = sym s.whole in
    subst P back (taken_others m s.before k s.after (reads_along r s.whole).ring kept)

-- ---- the list

-- what the links lead through is the list that they read as
pub list_read : {K : Type 0} (eq : K → K → Bool) → IsIdentityTest eq
    → (m : LinkMap K) (limit : ℕ) (first : Option K) (xs : List K)
    → ReadsAs m first xs → IsLimit m limit → ring_list eq m limit first ≡ xs
list_read eq t m limit first [] r bound = ap (ring_list eq m limit) r.start
list_read {K} eq t m limit first (x ∷ xs) r bound =
    ap (ring_list eq m limit) r.start ∙ ap (λ (ys : List K). x ∷ ys)
    (path-goes_on eq t m limit x x xs (walk_start xs r.ring bound))

-- a list that k isn't in is the same without k
without_none : {K : Type 0} (eq : K → K → Bool) → IsIdentityTest eq → (k : K) (xs : List K) → (HasMember xs k → ⊥)
    → without eq k xs ≡ xs
without_none eq t k [] h = refl
without_none {K} eq t k (x ∷ xs) h =
    let other : eq x k ≡ false = false_from_ne_true (eq x k) (λ e. h (inl (t.one x k e))) in
    let rest : without eq k xs ≡ xs = without_none eq t k xs (λ a. h (inr a)) in
    rw other (ap (λ (ys : List K). x ∷ ys) rest)

-- the list without its member k
pub without_member : {K : Type 0} (eq : K → K → Bool) → IsIdentityTest eq → (xs : List K) (k : K) (ys : List K)
    → AllDistinct (xs ++ k ∷ ys)
    → without eq k (xs ++ k ∷ ys) ≡ xs ++ ys
without_member eq t [] k ys d = rw (t.same k) (without_none eq t k ys d.0)
without_member {K} eq t (x ∷ xs) k ys d =
    let other : eq x k ≡ false = false_from_ne_true (eq x k)
    (λ e. d.0 (let P = HasMember (xs ++ k ∷ ys) in subst P (sym (t.one x k e))
    (member_right xs (k ∷ ys) k (inl refl)))) in
    let rest : without eq k (xs ++ k ∷ ys) ≡ xs ++ ys = without_member eq t xs k ys d.1 in
    rw other (ap (λ (zs : List K). x ∷ zs) rest)

-- the list with k behind its member
pub behind_member : {K : Type 0} (eq : K → K → Bool) → IsIdentityTest eq → (xs : List K) (place k : K) (ys : List K)
    → AllDistinct (xs ++ place ∷ ys)
    → with_behind eq place k (xs ++ place ∷ ys) ≡ xs ++ place ∷ k ∷ ys
behind_member eq t [] place k ys d = rw (t.same place) refl
behind_member {K} eq t (x ∷ xs) place k ys d =
    let other : eq x place ≡ false = false_from_ne_true (eq x place)
    (λ e. d.0 (let P = HasMember (xs ++ place ∷ ys) in subst P (sym (t.one x place e))
    (member_right xs (place ∷ ys) place (inl refl)))) in
    let rest : with_behind eq place k (xs ++ place ∷ ys) ≡ xs ++ place ∷ k ∷ ys =
    behind_member eq t xs place k ys d.1 in
    rw other (ap (λ (zs : List K). x ∷ zs) rest)

-- a member more in the middle
length_middle : {K : Type 0} (xs : List K) (k : K) (ys : List K) → length (xs ++ k ∷ ys) ≡ length (xs ++ ys) + 1
length_middle xs k ys = omega (arith, length-append xs (k ∷ ys), length-append xs ys)

-- a member more behind another
pub length_behind : {K : Type 0} (xs : List K) (place k : K) (ys : List K)
    → length (xs ++ place ∷ k ∷ ys) ≡ length (xs ++ place ∷ ys) + 1
length_behind xs place k ys = omega (arith, length-append xs (place ∷ k ∷ ys), length-append xs (place ∷ ys))

-- a ring's members are keys
pub reads_keys : {K : Type 0} {m : LinkMap K} {first : Option K} {zs : List K} → ReadsAs m first zs → AllKeys m zs
reads_keys {zs = []} r = tt
reads_keys {zs = z ∷ zs} r = r.ring.keys

-- so each of them is
pub member_key : {K : Type 0} {m : LinkMap K} {first : Option K} {zs : List K} (k : K) → ReadsAs m first zs
    → HasMember zs k → IsTrue (m.has k)
member_key k r h = (member_in_ring k r h).1.keys.0

-- a ring's members differ
pub reads_distinct : {K : Type 0} {m : LinkMap K} {first : Option K} {zs : List K} → ReadsAs m first zs → AllDistinct zs
reads_distinct {zs = []} r = tt
reads_distinct {zs = z ∷ zs} r = r.ring.distinct

-- a list round its member k, which is in neither part
pub record Parted {K : Type 0} (same : K → K → Bool) (zs : List K) (k : K) : Type 0 where
  pub before : List K
  pub after : List K
  pub whole : zs ≡ before ++ k ∷ after
  pub less : without same k zs ≡ before ++ after
  pub more : (j : K) → with_behind same k j zs ≡ before ++ k ∷ j ∷ after
  pub out : HasMember (before ++ after) k → ⊥
  pub within : (j : K) → HasMember (before ++ after) j → HasMember zs j
  pub count : length zs ≡ length (before ++ after) + 1

-- a ring's list parts at each member
pub parted : {K : Type 0} (same : K → K → Bool) → IsIdentityTest same
    → {m : LinkMap K} {first : Option K} {zs : List K} (k : K) → ReadsAs m first zs → HasMember zs k → Parted same zs k
parted {K} same t {zs = zs} k r h =
    let s = around zs k h in
    let d : AllDistinct (s.before ++ k ∷ s.after) = reads_distinct (reads_along r s.whole) in
    let p = distinct_parts s.before (k ∷ s.after) d in
    record {
      before = s.before;
      after = s.after;
      whole = s.whole;
      less = ap (λ (ys : List K). without same k ys) s.whole ∙ without_member same t s.before k s.after d;
      more = λ j. ap (λ (ys : List K). with_behind same k j ys) s.whole ∙ behind_member same t s.before k j s.after d;
      out = λ a. elim (member_cases s.before s.after k a) [ inl b ↦ p.apart k b (inl refl) | inr b ↦ p.right.0 b ];
      within = λ j a. member_of j (elim (member_cases s.before s.after j a) [
        | inl b ↦ member_left s.before (k ∷ s.after) j b
        | inr b ↦ member_right s.before (k ∷ s.after) j (inr b)
      ]) (sym s.whole);
      count = ap (λ (ys : List K). length ys) s.whole ∙ length_middle s.before k s.after;
    }

-- a list of different members, from one of them on
pub from_split : {K : Type 0} (same : K → K → Bool) → IsIdentityTest same → (xs : List K) (k : K) (ys : List K)
    → AllDistinct (xs ++ k ∷ ys) → from_member same k (xs ++ k ∷ ys) ≡ k ∷ ys
from_split same t [] k ys d = rw (t.same k) refl
from_split {K} same t (x ∷ xs) k ys d =
    let other : same x k ≡ false = false_from_ne_true (same x k)
    (λ e. d.0 (let P = HasMember (xs ++ k ∷ ys) in subst P (sym (t.one x k e))
    (member_right xs (k ∷ ys) k (inl refl)))) in
    rw other (from_split same t xs k ys d.1)

-- and up to it
pub before_split : {K : Type 0} (same : K → K → Bool) → IsIdentityTest same → (xs : List K) (k : K) (ys : List K)
    → AllDistinct (xs ++ k ∷ ys) → before_member same k (xs ++ k ∷ ys) ≡ xs
before_split same t [] k ys d = rw (t.same k) refl
before_split {K} same t (x ∷ xs) k ys d =
    let other : same x k ≡ false = false_from_ne_true (same x k)
    (λ e. d.0 (let P = HasMember (xs ++ k ∷ ys) in subst P (sym (t.one x k e))
    (member_right xs (k ∷ ys) k (inl refl)))) in
    rw other (ap (λ (zs : List K). x ∷ zs) (before_split same t xs k ys d.1))

-- Where the loop of `reverse` stands: it has turned some of the ring, and is at one.
use Rattle.std.proofs.Common.{◌≡◌, ℕ, ◌≤◌, ◌<◌, Bool, IsTrue, List, [], ◌∷◌, ◌++◌, refl, sym, ap, ◌∙◌, subst, inl, inr, length, arith, append_assoc}
use Rattle.link_ring.specs.Members.{HasMember, AllDistinct}
use Rattle.link_ring.specs.Ring.{LinkMap, AllKeys, IsSegment, IsRingFrom}
use Rattle.link_ring.specs.Changes.{SetsNext, SetsPrev}
use Rattle.link_ring.specs.Walk.{path}
use Rattle.link_ring.specs.Limits.{key_of}
use Rattle.link_ring.proofs.Members.{member_of, member_cases, member_one, member_left, member_right, differs, distinct_parts}
use Rattle.link_ring.proofs.Segments.{is_key_along, keys_right}
use Rattle.link_ring.proofs.Rings.{ring_unique}
use Rattle.link_ring.proofs.Paths.{IsIdentityTest, IsLimit, path-segment}
use Rattle.link_ring.proofs.Reversal.{Exchanged}

-- of the ring of `first` under m, `done` is exchanged in n, then comes `at`, and `todo` is as it was
pub record Turning {K : Type 0} (m n : LinkMap K) (first at : K) : Type 0 where
  pub xs : List K
  pub ring : IsRingFrom m first xs
  pub done : List K
  pub todo : List K
  pub whole : first ∷ xs ≡ done ++ at ∷ todo
  pub rest : IsSegment m at todo first
  pub fresh : HasMember todo first → ⊥
  pub past : HasMember done at → ⊥
  pub exchanged : Exchanged m n done

-- at first nothing is exchanged
pub turning_start : {K : Type 0} {m : LinkMap K} {first : K} (xs : List K) → IsRingFrom m first xs
    → Turning m m first first
turning_start xs r = record {
  xs = xs;
  ring = r;
  done = [];
  todo = xs;
  whole = refl;
  rest = r.leads;
  fresh = r.distinct.0;
  past = λ a. a;
  exchanged = record {
    has = λ j. refl;
    next = λ j a. absurd a;
    prev = λ j a. absurd a;
    next_else = λ j a. refl;
    prev_else = λ j a. refl;
  };
}

-- `at` is a key
pub at_key : {K : Type 0} {m n : LinkMap K} {first at : K} (t : Turning m n first at) → IsTrue (n.has at)
at_key {K} {m} {n} {first} {at} t =
    let h : HasMember (first ∷ t.xs) at = member_of at (member_right t.done (at ∷ t.todo) at (inl refl)) (sym t.whole)
    in
    is_key_along (t.exchanged.has at) (key_of m (first ∷ t.xs) at t.ring.keys h)

-- one more key has its links exchanged
exchanged_more : {K : Type 0} {m n n1 n2 : LinkMap K} {at before after : K} {done : List K} → Exchanged m n done
    → (HasMember done at → ⊥)
    → SetsNext n n1 at before → SetsPrev n1 n2 at after → after ≡ n.next at → before ≡ n.prev at
    → Exchanged m n2 (done ++ at ∷ [])
exchanged_more {K} {m} {n} {n1} {n2} {at} {before} {after} {done} e past a b p q = record {
  has = λ j. b.has j ∙ a.has j ∙ e.has j;
  next = λ j h. elim (member_cases done (at ∷ []) j h) [
    | inl i ↦ b.next j ∙ a.others j (differs done j at i past) ∙ e.next j i
    | inr i ↦ (let P = λ (k : K). n2.next k
        ≡ m.prev k in subst P (member_one i) (b.next at ∙ a.here ∙ q ∙ e.prev_else at past))
  ];
  prev = λ j h. elim (member_cases done (at ∷ []) j h) [
    | inl i ↦ b.others j (differs done j at i past) ∙ a.prev j ∙ e.prev j i
    | inr i ↦ (let P = λ (k : K). n2.prev k ≡ m.next k in subst P (member_one i) (b.here ∙ p ∙ e.next_else at past))
  ];
  next_else = λ j h. b.next j ∙ a.others j (λ s. h (member_right done (at ∷ []) j (inl s)))
      ∙ e.next_else j (λ i. h (member_left done (at ∷ []) j i));
  prev_else = λ j h. b.others j (λ s. h (member_right done (at ∷ []) j (inl s))) ∙ a.prev j
      ∙ e.prev_else j (λ i. h (member_left done (at ∷ []) j i));
}

-- ---- one step, or the end

-- the step, by what there is to do
advanced_at : {K : Type 0} (m n : LinkMap K) (first at : K) (todo done xs : List K) → IsRingFrom m first xs
    → first ∷ xs ≡ done ++ at ∷ todo
    → IsSegment m at todo first → (HasMember todo first → ⊥) → Exchanged m n (done ++ at ∷ []) → (m.next at ≡ first → ⊥)
    → Turning m n first (m.next at)
advanced_at m n first at [] done xs r w l f e ne = absurd (ne l.0)
advanced_at {K} m n first at (y ∷ ys) done xs r w l f e ne =
    let whole : first ∷ xs ≡ (done ++ at ∷ []) ++ y ∷ ys = w ∙ sym (append_assoc done (at ∷ []) (y ∷ ys)) in
    let parts = distinct_parts (done ++ at ∷ []) (y ∷ ys) (subst AllDistinct whole r.distinct) in
    let P = Turning m n first in
    subst P (sym l.0.0) (record {
      xs = xs;
      ring = r;
      done = done ++ at ∷ [];
      todo = ys;
      whole = whole;
      rest = l.1;
      fresh = λ a. f (inr a);
      past = λ a. parts.apart y a (inl refl);
      exchanged = e;
    })

-- the step to the next member
pub advanced : {K : Type 0} {m n n1 n2 : LinkMap K} {first at before after : K} → Turning m n first at
    → SetsNext n n1 at before → SetsPrev n1 n2 at after
    → after ≡ n.next at → before ≡ n.prev at → (after ≡ first → ⊥) → Turning m n2 first after
advanced {K} {m} {n} {n1} {n2} {first} {at} {before} {after} t a b p q ne =
    let ahead : after ≡ m.next at = p ∙ t.exchanged.next_else at t.past in
    let P = Turning m n2 first in
    subst P (sym ahead)
    (advanced_at m n2 first at t.todo t.done t.xs t.ring t.whole t.rest t.fresh
    (exchanged_more t.exchanged t.past a b p q) (λ h. ne (ahead ∙ h)))

-- at the end there is nothing to do
finished_at : {K : Type 0} (m : LinkMap K) (first at : K) (todo : List K) → IsSegment m at todo first
    → (HasMember todo first → ⊥) → m.next at ≡ first → todo ≡ []
finished_at m first at [] l f e = refl
finished_at m first at (y ∷ ys) l f e = absurd (f (inl (sym l.0.0 ∙ e)))

-- the last step
pub finished : {K : Type 0} {m n n1 n2 : LinkMap K} {first at before after : K} → Turning m n first at
    → SetsNext n n1 at before → SetsPrev n1 n2 at after
    → after ≡ n.next at → before ≡ n.prev at → after ≡ first → (xs : List K) → IsRingFrom m first xs
    → Exchanged m n2 (first ∷ xs)
finished {K} {m} {n} {n1} {n2} {first} {at} {before} {after} t a b p q end xs r =
    let ahead : m.next at ≡ first = sym (t.exchanged.next_else at t.past) ∙ sym p ∙ end in
    let none : t.todo ≡ [] = finished_at m first at t.todo t.rest t.fresh ahead in
    let all : t.done ++ at ∷ [] ≡ first ∷ xs =
    ap (λ (ys : List K). t.done ++ at ∷ ys) (sym none) ∙ sym t.whole
    ∙ ap (λ (ys : List K). first ∷ ys) (ring_unique t.ring r) in
    let P = Exchanged m n2 in
    subst P all (exchanged_more t.exchanged t.past a b p q)

-- ---- the path ahead gets shorter

-- the path, by what there is to do
shorter_at : {K : Type 0} (eq : K → K → Bool) → IsIdentityTest eq
    → (m : LinkMap K) (first at : K) (todo : List K) (limit : ℕ)
    → IsSegment m at todo first → (HasMember todo first → ⊥) → length todo ≤ limit → (m.next at ≡ first → ⊥)
    → length (path eq m first limit (m.next at)) < length (path eq m first limit at)
shorter_at eq t m first at [] limit l f b ne = absurd (ne l.0)
shorter_at eq t m first at (y ∷ ys) limit l f b ne =
    let now : path eq m first limit at ≡ y ∷ ys = path-segment eq t m first at (y ∷ ys) limit l f b in
    let then : path eq m first limit y ≡ ys = path-segment eq t m first y ys limit l.1 (λ a. f (inr a)) (omega arith) in
    let next : m.next at ≡ y = l.0.0 in
    rw (now, next, then) (omega arith)

-- each step makes the path shorter
pub path_shorter : {K : Type 0} (eq : K → K → Bool) → IsIdentityTest eq
    → {m n : LinkMap K} {first at after : K} (limit : ℕ) → IsLimit m limit
    → Turning m n first at → after ≡ n.next at → (after ≡ first → ⊥)
    → length (path eq m first limit after) < length (path eq m first limit at)
path_shorter {K} eq i {m} {n} {first} {at} {after} limit bound t p ne =
    let ahead : after ≡ m.next at = p ∙ t.exchanged.next_else at t.past in
    let parts = distinct_parts t.done (at ∷ t.todo) (subst AllDistinct t.whole t.ring.distinct) in
    let P = AllKeys m in
    let keys = keys_right m t.done (at ∷ t.todo) (subst P t.whole t.ring.keys) in
    let Q = λ (k : K). length (path eq m first limit k) < length (path eq m first limit at) in
    subst Q (sym ahead) (shorter_at eq i m first at t.todo limit t.rest t.fresh (bound t.todo parts.right.1 keys.1)
    (λ h. ne (ahead ∙ h)))

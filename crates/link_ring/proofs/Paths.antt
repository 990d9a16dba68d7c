-- The path that `next` leads along, which says how far a loop around a ring still has to go.
use Rattle.std.proofs.Common.{◌≡◌, ℕ, zero, suc, ◌≤◌, Bool, true, false, List, [], ◌∷◌, refl, sym, ap, ◌∙◌, inl, inr, length, arith}
use Rattle.std.proofs.lemmas.Bool.{false_from_ne_true, false≢true}
use Rattle.link_ring.specs.Members.{HasMember, AllDistinct}
use Rattle.link_ring.specs.Ring.{LinkMap, AllKeys, IsSegment}
use Rattle.link_ring.specs.Walk.{path}

-- the test answers true exactly at one key and itself
pub record IsIdentityTest {K : Type 0} (eq : K → K → Bool) : Type 0 where
  pub one : (a b : K) → eq a b ≡ true → a ≡ b
  pub same : (a : K) → eq a a ≡ true

-- where the test answers false, the keys differ
pub test_differs : {K : Type 0} (eq : K → K → Bool) (a b : K) → IsIdentityTest eq → eq a b ≡ false → a ≡ b → ⊥
test_differs {K} eq a b t h e = false≢true (sym h ∙ ap (λ (k : K). eq k b) e ∙ t.same b)

-- no list of different keys is longer than the limit
abbrev pub IsLimit : {K : Type 0} → LinkMap K → ℕ → Type 0
IsLimit {K} m limit = (xs : List K) → AllDistinct xs → AllKeys m xs → length xs ≤ limit

-- the path is the segment up to `first`
pub path-segment : {K : Type 0} (eq : K → K → Bool) → IsIdentityTest eq
    → (m : LinkMap K) (first at : K) (xs : List K) (n : ℕ)
    → IsSegment m at xs first → (HasMember xs first → ⊥) → length xs ≤ n → path eq m first n at ≡ xs
path-segment eq t m first at [] zero l f h = refl
path-segment eq t m first at [] (suc n) l f h =
    let e : eq (m.next at) first ≡ true = rw (l.0) (t.same first) in
    rw e refl
path-segment eq t m first at (x ∷ xs) zero l f h = absurd (omega arith)
path-segment eq t m first at (x ∷ xs) (suc n) l f h =
    let other : eq x first ≡ false = false_from_ne_true (eq x first) (λ e. f (inl (t.one x first e))) in
    let next : m.next at ≡ x = l.0.0 in
    let rest : path eq m first n x ≡ xs = path-segment eq t m first x xs n l.1 (λ a. f (inr a)) (omega arith) in
    rw (next, other, rest) refl

-- How many different keys there can be: what an implementation of the links has to show.
use Rattle.std.specs.Prelude.{◌≡◌, ◌≤◌, ◌<◌, ℕ, true, false, IsTrue, eqb, List, [], ◌∷◌, length, map}
use Rattle.std.specs.List.{IsDistinct, AllByRecursion, list_any}
use Rattle.std.proofs.Common.{refl, sym, subst, inl, inr}
use Rattle.std.proofs.lemmas.List.{length-map}
use Rattle.std.proofs.lemmas.Bool.{or_cases, false_from_ne_true, false≢true, eqb-true}
use Rattle.std.proofs.lemmas.Map.Steps.{length-le_from_distinct_below}
use Rattle.link_ring.specs.Members.{HasMember, AllDistinct}
use Rattle.link_ring.specs.Mapped.{mapped_from, distinct_map}
use Rattle.link_ring.specs.Ring.{LinkMap, AllKeys}

-- each of a list of keys is a key
pub key_of : {K : Type 0} (m : LinkMap K) (xs : List K) (j : K) → AllKeys m xs → HasMember xs j → IsTrue (m.has j)
key_of m [] j h a = absurd a
key_of m (x ∷ xs) j h a = elim a [
  | inl e ↦ (let P = λ (y : _). IsTrue (m.has y) in subst P e h.0)
  | inr r ↦ key_of m xs
      j h.1 r
]

-- no member is equal to what is no member
none_equal : (x : ℕ) (xs : List ℕ) → (HasMember xs x → ⊥) → AllByRecursion (λ y. eqb x y ≡ false) xs
none_equal x [] n = tt
none_equal x (y ∷ ys) n = (
  false_from_ne_true (eqb x y) (λ e. n (inl (sym (eqb-true x y e)))),
  none_equal x ys (λ a. n (inr a)),
)

-- numbers that stand once are different by the test
distinct_numbers : (xs : List ℕ) → AllDistinct xs → IsDistinct eqb xs
unfolding IsDistinct
distinct_numbers [] d = tt
distinct_numbers (x ∷ xs) d = (none_equal x xs d.0, distinct_numbers xs d.1)

-- what the test finds is a member
member_any : (q : ℕ) (xs : List ℕ) → list_any (eqb q) xs ≡ true → HasMember xs q
member_any q [] h = absurd (false≢true h)
member_any q (x ∷ xs) h = elim (or_cases (eqb q x) (list_any (eqb q) xs) h)
    [ inl e ↦ inl (sym (eqb-true q x e)) | inr r ↦ inr (member_any q xs r) ]

-- different numbers below n are at most n
pub numbers_limited : (n : ℕ) (xs : List ℕ) → AllDistinct xs → ((j : ℕ) → HasMember xs j → j < n) → length xs ≤ n
numbers_limited n xs d f = length-le_from_distinct_below xs n (distinct_numbers xs d) (λ q h. f q (member_any q xs h))

-- different keys that are numbered below n, no two alike, are at most n
pub keys_limited : {K : Type 0} (f : K → ℕ) (n : ℕ) (xs : List K) → AllDistinct xs
    → ((a b : K) → HasMember xs a → HasMember xs b → f a ≡ f b → a ≡ b) → ((k : K) → HasMember xs k → f k < n)
    → length xs ≤ n
keys_limited f n xs d one low =
    let P = λ (q : ℕ). q < n in
    let Q = λ (q : ℕ). q ≤ n in
    subst Q (length-map xs f)
    (numbers_limited n (map f xs) (distinct_map f xs one d)
    (λ j h. let t = mapped_from f xs j h in subst P t.is (low t.of t.member)))

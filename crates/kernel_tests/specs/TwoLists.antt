-- Links that two lists keep, for the tests: the keys are the places of the lists.
use Rattle.std.specs.Prelude.{◌≡◌, ◌≤◌, ℕ, true, eqb, nat_lt, List, length, slice_index}
use Rattle.std.proofs.lemmas.Bool.{eqb-true, ltb-true}
use Rattle.link_ring.specs.Members.{AllDistinct}
use Rattle.link_ring.specs.Ring.{LinkMap, AllKeys}
use Rattle.link_ring.specs.Limits.{key_of, numbers_limited}

-- the links that two lists keep
abbrev pub links_of : List ℕ → List ℕ → LinkMap ℕ
links_of next prev = record { has = λ k. nat_lt k (length next); next = slice_index next; prev = slice_index prev }

-- numbers that compare equal are one number
pub one_number : (a b : ℕ) → eqb a b ≡ true → a ≡ b
one_number = eqb-true

-- there are no more keys than places
pub limited_by_length : (next prev : List ℕ) (xs : List ℕ) → AllDistinct xs → AllKeys (links_of next prev) xs
    → length xs ≤ length next
limited_by_length next prev xs d k = numbers_limited (length next) xs d
    (λ j h. ltb-true j (length next) (key_of (links_of next prev) xs j k h))

-- Worked rows of the definitions, on four numbers in a circle: 0, 3, 1, 2, and then 0 again.
use Rattle.std.proofs.Common.{◌≡◌, ℕ, false, eqb, nat_lt, slice_index, [], ◌∷◌, Some, None, refl, sym, ◌∙◌, inl, inr}
use Rattle.std.proofs.lemmas.Bool.{false≢true, eq-eqb}
use Rattle.link_ring.specs.Ring.{LinkMap, IsRing, ReadsAs}
use Rattle.link_ring.specs.Walk.{items_from}
use Rattle.link_ring.proofs.Numbers.{no_member}

-- next and previous links of the circle
abbrev circle : LinkMap ℕ
circle = record {
  has = λ k. nat_lt k 4;
  next = slice_index (3 ∷ 2 ∷ 0 ∷ 1 ∷ []);
  prev = slice_index (2 ∷ 3 ∷ 1 ∷ 0 ∷ []);
}

-- the circle is a ring, read from 0
from_zero : IsRing circle (0 ∷ 3 ∷ 1 ∷ 2 ∷ [])
from_zero = record {
  leads = ((refl, refl), ((refl, refl), ((refl, refl), (refl, refl))));
  distinct = (
    no_member (3 ∷ 1 ∷ 2 ∷ []) 0 refl,
    (no_member (1 ∷ 2 ∷ []) 3 refl, (no_member (2 ∷ []) 1 refl, (no_member [] 2 refl, tt))),
  );
  keys = (refl, (refl, (refl, (refl, tt))));
}

-- and so from 1
from_one : IsRing circle (1 ∷ 2 ∷ 0 ∷ 3 ∷ [])
from_one = record {
  leads = ((refl, refl), ((refl, refl), ((refl, refl), (refl, refl))));
  distinct = (
    no_member (2 ∷ 0 ∷ 3 ∷ []) 1 refl,
    (no_member (0 ∷ 3 ∷ []) 2 refl, (no_member (3 ∷ []) 0 refl, (no_member [] 3 refl, tt))),
  );
  keys = (refl, (refl, (refl, (refl, tt))));
}

-- it reads so from a first key
reads_zero : ReadsAs circle (Some 0) (0 ∷ 3 ∷ 1 ∷ 2 ∷ [])
reads_zero = record { ring = from_zero; start = refl }

-- no first key reads as the empty list
reads_none : ReadsAs circle None []
reads_none = record { ring = tt; start = refl }

-- numbers that the test tells apart
differ : (a b : ℕ) → eqb a b ≡ false → a ≡ b → ⊥
differ a b h e = false≢true (sym h ∙ eq-eqb a b e)

-- a part of the circle is no ring
part : IsRing circle (0 ∷ 3 ∷ []) → ⊥
part r = differ 1 0 refl r.leads.1.0

-- nor is a list that goes round twice
twice : IsRing circle (0 ∷ 3 ∷ 1 ∷ 2 ∷ 0 ∷ 3 ∷ 1 ∷ 2 ∷ []) → ⊥
twice r = r.distinct.0 (inr (inr (inr (inl refl))))

-- nor one in another order
backwards : IsRing circle (0 ∷ 2 ∷ 1 ∷ 3 ∷ []) → ⊥
backwards r = differ 3 2 refl r.leads.0.0

-- the circle with a wrong previous link of 3
abbrev broken : LinkMap ℕ
broken = record { has = circle.has; next = circle.next; prev = slice_index (2 ∷ 3 ∷ 1 ∷ 1 ∷ []) }

-- it is no ring, since no link leads back from 3 to 0
no_way_back : IsRing broken (0 ∷ 3 ∷ 1 ∷ 2 ∷ []) → ⊥
no_way_back r = differ 1 0 refl r.leads.0.1

-- the circle where 3 is no key
abbrev fewer : LinkMap ℕ
fewer = record { has = λ k. nat_lt k 3; next = circle.next; prev = circle.prev }

-- it is no ring
no_key : IsRing fewer (0 ∷ 3 ∷ 1 ∷ 2 ∷ []) → ⊥
no_key r = false≢true r.keys.1.0

-- what a walk from 0 still gives
at_start : items_from eqb circle 4 0 (Some 0) ≡ 0 ∷ 3 ∷ 1 ∷ 2 ∷ []
at_start = refl

-- and from 1 on
at_one : items_from eqb circle 4 0 (Some 1) ≡ 1 ∷ 2 ∷ []
at_one = refl

-- and at the end
at_end : items_from eqb circle 4 0 None ≡ []
at_end = refl
